mod NameLemmas
mod RunningStatements
mod ReportLemmas
mod SessionLemmas
mod PrintingFaults
mod WorkedFaults
