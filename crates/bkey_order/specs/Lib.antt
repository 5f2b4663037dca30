pub mod BkeyFaults
pub mod OrderLaws
