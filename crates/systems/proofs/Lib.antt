mod DesignRules
mod TermsRules
mod NetRules
mod Judged
mod LayeredRules
mod Possible
mod Worked
