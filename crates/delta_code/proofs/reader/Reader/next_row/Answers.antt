use Rattle.std.proofs.Common.{rules}
use Rattle.frame_map.specs.Rows.{Lawful}
use Rattle.delta_code.proofs.ReaderLaws.{no_row, bad_row, got_row}
use Rattle.delta_code.proofs.reader.Reader.next_row.Goals as goal
use Rattle.delta_code.proofs.reader.Reader.next_row.Goals.{in_default-via-in-Some+else-is_lawful, in_default-via-in_default}

pub returns-in-Some : goal.returns-in-Some
returns-in-Some c =
    let lawful : Lawful c.in-Some.entry.row = search rules in
    got_row c.args.before.now c.in-Some.entry c.args.self.now c.entry.new.self c.in-Some.ensures lawful

pub returns-in_default : goal.returns-in_default
returns-in_default c =
    elim c.in_default.branch [
      | in_default-via-in-Some+else-is_lawful w ↦
          bad_row c.args.before.now w.in-Some.entry c.args.self.now c.entry.new.self c.fault.new.self c.fault.result
          w.in-Some.ensures w.if-is_lawful.ensures c.fault.ensures.0 c.fault.ensures.1.0 c.fault.ensures.1.1
      | in_default-via-in_default w ↦
          no_row c.args.before.now c.args.self.now c.entry.new.self c.fault.new.self c.fault.result
          w.in_default.ensures c.fault.ensures.0 c.fault.ensures.1.0 c.fault.ensures.1.1
    ]
