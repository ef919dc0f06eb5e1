-- The records of a survey that is handed to a call.
use Rattle.records.specs.Records as Records
use Rattle.checks.specs.declared.Survey.{Survey}

abbrev pub records_of : Survey → Records.Survey
records_of a = Records.survey_of a.header a.storeys.now a.members.now
