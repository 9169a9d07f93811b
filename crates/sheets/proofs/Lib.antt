mod TypedSheets
mod NeverByStanding
