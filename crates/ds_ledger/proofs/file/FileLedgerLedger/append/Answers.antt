use Rattle.ds_ledger.proofs.file.FileLedgerLedger.append.Goals as goal

pub returns-clause-appended : goal.returns-clause-appended
returns-clause-appended c = c.append.ensures.appended

pub returns-clause-unchanged : goal.returns-clause-unchanged
returns-clause-unchanged c = c.append.ensures.unchanged

pub returns-clause-told : goal.returns-clause-told
returns-clause-told c = c.append.ensures.told

pub returns-clause-truthful : goal.returns-clause-truthful
returns-clause-truthful c = c.append.ensures.truthful

pub returns-clause-lasting : goal.returns-clause-lasting
returns-clause-lasting c = c.append.ensures.lasting

pub returns-clause-crash : goal.returns-clause-crash
returns-clause-crash c = c.append.ensures.crash

pub returns-clause-recovers : goal.returns-clause-recovers
returns-clause-recovers c = c.append.ensures.recovers
