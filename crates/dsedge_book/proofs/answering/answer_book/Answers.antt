use Rattle.std.proofs.Common.{Err, Ok, refl, sym}
use Rattle.dsedge_book.proofs.answering.answer_book.Goals as goal

-- the text that is found, or why there is none
pub returns-in-Ok-clause-served : goal.returns-in-Ok-clause-served
returns-in-Ok-clause-served g c tells = record {
  text = Ok c.in-Ok.told.items;
  found = c.in-Ok.ensures.told;
  told = rw (sym c.as_slice.ensures.value) (c.answer_text.ensures.served tells);
}

pub returns-in-Err-clause-served : goal.returns-in-Err-clause-served
returns-in-Err-clause-served g c tells = record {
  text = Err c.in-Err.fault;
  found = c.in-Err.ensures.refused;
  told = (c.untold.ensures, refl);
}
