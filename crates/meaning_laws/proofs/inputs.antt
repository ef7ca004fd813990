mod Words
mod ReadStatements
