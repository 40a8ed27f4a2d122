-- After commands of which some were accepted, a book is the fold of those.
use Rattle.std.proofs.Common.{◌≡◌, List, [], ◌∷◌, ◌++◌, refl, sym, ap, ◌∙◌, inl, inr, append_assoc, append-nil}
use Rattle.ds_broker.specs.Books.{Book, standing, with_command}
use Rattle.ds_broker.specs.Requests.{AreSomeOf, AreUnrefused, IsFoldOfAccepted, LeadsTo}
use Rattle.ds_broker.specs.declared.command.Command.{Command}
use Rattle.ds_broker.proofs.StandingLaws.{standing-append}

-- a command that is asked first and refused
AreSomeOf-more : (accepted : List Command) (command : Command) (asked : List Command) → AreSomeOf accepted asked → AreSomeOf accepted (command ∷ asked)
unfolding AreSomeOf
AreSomeOf-more [] command asked some = tt
AreSomeOf-more (first ∷ accepted) command asked some = inr some

-- the accepted ones, and where they lead
fold_of : (b : Book) (asked : List Command) (end : Book) (accepted : List Command) → AreSomeOf accepted asked → AreUnrefused b accepted → end ≡ record b { history = b.history ++ accepted }
    → IsFoldOfAccepted b asked end
fold_of b asked end accepted some unrefused history =
    record { accepted = accepted; some = some; unrefused = unrefused; history = history; stands = ap standing history ∙ standing-append b.history accepted }

pub accepted_fold : (b : Book) (asked : List Command) (end : Book) → LeadsTo b asked end → IsFoldOfAccepted b asked end
unfolding LeadsTo AreSomeOf AreUnrefused
accepted_fold b [] end leads = fold_of b [] end [] tt tt (leads ∙ ap (λ history. record b { history = history }) (sym (append-nil b.history)))
accepted_fold b (command ∷ asked) end (inl taken) =
    let rest = accepted_fold (with_command b command) asked end taken.1 in
    fold_of b (command ∷ asked) end (command ∷ rest.accepted) (inl (refl, rest.some)) (taken.0, rest.unrefused)
    (rest.history ∙ ap (λ history. record b { history = history }) (append_assoc b.history (command ∷ []) rest.accepted))
accepted_fold b (command ∷ asked) end (inr refused) =
    let rest = accepted_fold b asked end refused in
    fold_of b (command ∷ asked) end rest.accepted (AreSomeOf-more rest.accepted command asked rest.some) rest.unrefused rest.history
