use Rattle.csv.specs.Records.{fields_of}
use Rattle.beet_forms.proofs.ReaderFacts.{err_kept, read_on, stops_read, ok_kept}
use Rattle.beet_forms.proofs.reader.read.Goals as goal

pub returns-clause-reading : goal.returns-clause-reading
returns-clause-reading c =
    let e = c.read_byte_record.ensures in
    (read_on c.args.reader.now c.read_byte_record.new.self c.read_byte_record.result
    (fields_of c.read_byte_record.new.row) c.requires e.failed e.ready e.reads e.flexible e.goes e.fails e.why).0

pub returns-clause-gives : goal.returns-clause-gives
returns-clause-gives c =
    let e = c.read_byte_record.ensures in
    ok_kept _ _ c.read_byte_record.result _ c.map_err.ensures.cases
    (read_on c.args.reader.now c.read_byte_record.new.self c.read_byte_record.result
    (fields_of c.read_byte_record.new.row) c.requires e.failed e.ready e.reads e.flexible e.goes e.fails e.why).1

pub returns-clause-failed : goal.returns-clause-failed
returns-clause-failed c =
    let e = c.read_byte_record.ensures in
    err_kept _ _ c.read_byte_record.result _ c.map_err.ensures.cases
    (read_on c.args.reader.now c.read_byte_record.new.self c.read_byte_record.result
    (fields_of c.read_byte_record.new.row) c.requires e.failed e.ready e.reads e.flexible e.goes e.fails e.why).2

pub map_err-requires : goal.map_err-requires
map_err-requires c = λ why is.
    let e = c.read_byte_record.ensures in
    stops_read c.args.reader.now c.read_byte_record.new.self c.read_byte_record.result why c.requires e.failed e.why is
