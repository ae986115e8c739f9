-- The start: which seats a board has, what each keeps, and what all begin with. Source: this
-- project's own.
pub mod Seats
pub mod Owners
pub mod StartViews
pub mod FirstEnds
