use Rattle.std.proofs.Common.{refl}
use Rattle.dsedge_faults.specs.Advised.{link_type_advice, place_advice, record_advice}
use Rattle.dsedge_faults.proofs.advising.tell_advice.Goals as goal

pub returns-in-Certificate-clause-line : goal.returns-in-Certificate-clause-line
returns-in-Certificate-clause-line g c told =
    rw c.in-Certificate.is (place_advice c.in-Certificate.place, refl, c.tell_place.ensures.line told)

pub returns-in-LinkType-clause-line : goal.returns-in-LinkType-clause-line
returns-in-LinkType-clause-line g c told =
    rw c.in-LinkType.is (link_type_advice c.in-LinkType.number, refl, c.tell_link_type.ensures.line told)

pub returns-in-RecordTooLong-clause-line : goal.returns-in-RecordTooLong-clause-line
returns-in-RecordTooLong-clause-line g c told =
    rw c.in-RecordTooLong.is (record_advice c.in-RecordTooLong.count, refl, c.tell_record.ensures.line told)
