mod NodeLaws
mod Pushed
mod Worked
