use Rattle.history.proofs.Reporting.{sheets_report}
use Rattle.history.proofs.reports.sheets_report_their_ends.Goals as goal

pub returns : goal.returns
returns c = sheets_report
