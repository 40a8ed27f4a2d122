-- Steps and the runs that they make; and the run behind packets that are sent, with the verdict on it, said of them alone
-- and found as they are sent.
pub mod Behind
pub mod Conducting
pub mod ConductingLaws
pub mod Example
pub mod Faults
pub mod Judged
pub mod JudgedLaws
pub mod Judging
pub mod Kept
pub mod KeptConductors
pub mod Laws
pub mod Making
pub mod OnTheWay
pub mod Steps
