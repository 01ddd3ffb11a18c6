-- The laws of the enumeration, lowest first.
mod TableLaws
mod Visits
mod OutcomeLaws
