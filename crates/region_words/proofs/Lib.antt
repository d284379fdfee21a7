mod WordLaws
mod TableLaws
mod WalkLaws
