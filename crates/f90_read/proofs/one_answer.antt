mod Unanswered
mod DeclaredNames
mod SuitedForms
mod ByteOrder
mod ManyNames
mod Settled
