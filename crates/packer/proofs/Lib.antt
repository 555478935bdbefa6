-- what a host reads off a header's number
pub mod Headers
