pub mod FirstRun
pub mod FirstAudit
