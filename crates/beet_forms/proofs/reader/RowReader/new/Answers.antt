use Rattle.csv.specs.Reading.{default_config, strip_bom}
use Rattle.beet_forms.proofs.Records.{all_left, rows_few}
use Rattle.beet_forms.proofs.reader.RowReader.new.Goals as goal

pub returns-clause-rows : goal.returns-clause-rows
returns-clause-rows c =
    let reader = c.from_reader.ensures in
    rw (reader.state, reader.source) (all_left default_config (strip_bom c.args.bytes.now))

pub returns-clause-few : goal.returns-clause-few
returns-clause-few c =
    let reader = c.from_reader.ensures in
    rw (reader.state, reader.source, all_left default_config (strip_bom c.args.bytes.now)) (rows_few c.args.bytes.now)
