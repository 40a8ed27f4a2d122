use Rattle.ds_broker.proofs.RequestLaws.{accepted_fold}
use Rattle.ds_broker.proofs.laws.a_book_is_the_fold_of_what_it_accepted.Goals as goal

pub returns : goal.returns
returns c b asked end leads = accepted_fold b asked end leads
