use Rattle.dsedge_sold.proofs.objects.push_refused_object.Goals as goal

pub returns-in-TableFull-clause-object : goal.returns-in-TableFull-clause-object
returns-in-TableFull-clause-object c = rw c.in-TableFull.is c.push_kind_object-in-TableFull.ensures

pub returns-in-NotReleased-clause-object : goal.returns-in-NotReleased-clause-object
returns-in-NotReleased-clause-object c = rw c.in-NotReleased.is c.push_kind_object-in-NotReleased.ensures
