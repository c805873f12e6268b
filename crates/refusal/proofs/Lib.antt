-- Laws of the refusals and of reports.
pub mod Laws
pub mod ReportLaws
