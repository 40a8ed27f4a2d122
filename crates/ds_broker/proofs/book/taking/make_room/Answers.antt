use Rattle.ds_broker.proofs.book.taking.make_room.Goals as goal

pub returns-clause-id_room : goal.returns-clause-id_room
returns-clause-id_room c = c.in_ok-reserve.ensures.ok

pub returns-clause-released_room : goal.returns-clause-released_room
returns-clause-released_room c = c.in_ok-reserve-2.ensures.ok

pub returns-clause-command_room : goal.returns-clause-command_room
returns-clause-command_room c = c.in_ok-reserve-4.ensures.ok
