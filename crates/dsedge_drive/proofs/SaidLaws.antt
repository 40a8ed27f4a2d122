-- What is said of a command, by what became of it.
use Rattle.std.proofs.Common.{◌≡◌, ◌≢◌, ℕ, Bool, List, ◌++◌, Option, None, Result, Ok, Err, ap, ◌∙◌, inl, inr, IfErr, IfOk, MatchResult, OnErr, OnOk}
use Rattle.std.proofs.lemmas.Result.{on_err_weaker}
use Rattle.ds_broker.specs.Books.{Book, contracts_in, held_of, with_command}
use Rattle.ds_broker.specs.Refusals.{IsRefusal}
use Rattle.ds_broker.specs.declared.command.Command.{Command}
use Rattle.ds_broker.specs.declared.refusal.BrokerRefusal.{BrokerRefusal}
use Rattle.ds_broker.specs.declared.refusal.BrokerRefusal.TheVariants.{NoMemory}
use Rattle.dsedge_drive.specs.Driven.{said_of}
use Rattle.dsedge_sold.specs.Said.{refused_said}

-- the line of an accepted command, or of what stands against it
pub said_text : {T : Type 0} (in_json : Bool) (b new : Book) (command : Command) (line : T → List ℕ) (value : T) (against : Option BrokerRefusal) (done : Result T BrokerRefusal)
    (old text : List ℕ) → IfOk done (λ v. v ≡ value) → OnOk done (against ≡ None) → IfErr done (IsRefusal against) → OnErr done (new ≡ b)
    → MatchResult done (λ v. text ≡ old ++ line v) (λ r. text ≡ old ++ refused_said in_json (contracts_in (held_of new)) r) → IfErr done (λ r. r ≢ NoMemory)
    → text ≡ old ++ (said_of in_json b command (line value) against).text
said_text in_json b new command line value against (Ok v) old text is free refused same written answered = rw free (written ∙ ap (λ x. old ++ line x) is)
said_text in_json b new command line value against (Err r) old text is free (inl memory) same written answered = absurd (answered memory.0)
said_text in_json b new command line value against (Err r) old text is free (inr stands) same written answered =
    rw stands (written ∙ ap (λ (n : Book). old ++ refused_said in_json (contracts_in (held_of n)) r) same)

-- and the book from then on
pub said_book : {T : Type 0} (in_json : Bool) (b new : Book) (command : Command) (line : List ℕ) (against : Option BrokerRefusal) (done : Result T BrokerRefusal)
    → OnOk done (new ≡ with_command b command) → OnOk done (against ≡ None) → IfErr done (IsRefusal against) → OnErr done (new ≡ b)
    → IfErr done (λ r. r ≢ NoMemory) → new ≡ (said_of in_json b command line against).book
said_book in_json b new command line against (Ok v) kept free refused same answered = rw free kept
said_book in_json b new command line against (Err r) kept free (inl memory) same answered = absurd (answered memory.0)
said_book in_json b new command line against (Err r) kept free (inr stands) same answered = rw stands same

-- the same where the line was written, if it was
pub outcome_text : {T U E : Type 0} (r : Result U E) (in_json : Bool) (b new own : Book) (command : Command) (line : T → List ℕ) (value : T) (against : Option BrokerRefusal)
    (done : Result T BrokerRefusal) (old text : List ℕ) → IfOk done (λ v. v ≡ value) → OnOk done (against ≡ None)
    → IfErr done (IsRefusal against) → OnErr done (new ≡ b) → own ≡ new
    → OnOk r (MatchResult done (λ v. text ≡ old ++ line v) (λ q. text ≡ old ++ refused_said in_json (contracts_in (held_of own)) q))
    → OnOk r (IfErr done (λ q. q ≢ NoMemory)) → OnOk r (text ≡ old ++ (said_of in_json b command (line value) against).text)
outcome_text (Ok u) in_json b new own command line value against done old text is free refused same shown written answered =
    said_text in_json b own command line value against done old text is free refused (on_err_weaker done (λ kept. shown ∙ kept) same) written answered
outcome_text (Err e) in_json b new own command line value against done old text is free refused same shown written answered = tt

pub outcome_book : {T U E : Type 0} (r : Result U E) (in_json : Bool) (b new : Book) (command : Command) (line : List ℕ) (against : Option BrokerRefusal) (done : Result T BrokerRefusal)
    → OnOk done (new ≡ with_command b command) → OnOk done (against ≡ None) → IfErr done (IsRefusal against) → OnErr done (new ≡ b)
    → OnOk r (IfErr done (λ q. q ≢ NoMemory)) → OnOk r (new ≡ (said_of in_json b command line against).book)
outcome_book (Ok u) in_json b new command line against done kept free refused same answered = said_book in_json b new command line against done kept free refused same answered
outcome_book (Err e) in_json b new command line against done kept free refused same answered = tt
