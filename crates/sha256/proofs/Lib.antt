-- Laws of the definition: the schedule, the padded message, its blocks, the hash value; and the worked examples.
pub mod ScheduleWords
pub mod Padded
pub mod Blocks
pub mod Values
pub mod Examples
