mod OwnerLaws
mod FillLaws
mod CallLaws
