-- The texts of files, one after the other.
use Rattle.std.proofs.Common.{◌≡◌, ℕ, ◌+◌, ◌<◌, ◌≤◌, List, [], ◌∷◌, ◌++◌, length, drop, get_or, Option, None, Some, Result, Ok, Err, refl, sym, ap, ◌∙◌, append_assoc, append-nil}
use Rattle.std.proofs.lemmas.List.{at_drop_all, drop_more}
use Rattle.dsedge_texts.specs.Readable.{readable, texts_of, with_text}

-- the texts of files behind those that were read before
abbrev pub behind_texts : List (List ℕ) → Result (List (List ℕ)) (List ℕ) → Result (List (List ℕ)) (List ℕ)
behind_texts front (Ok texts) = Ok (front ++ texts)
behind_texts front (Err unread) = Err unread

pub behind_more : (front more : List (List ℕ)) (texts : Result (List (List ℕ)) (List ℕ))
    → behind_texts front (behind_texts more texts) ≡ behind_texts (front ++ more) texts
behind_more front more (Ok texts) = ap (λ t. Ok t) (simp append_assoc)
behind_more front more (Err unread) = refl

pub texts_of-none : (holds : List ℕ → Option (List ℕ)) → texts_of holds [] ≡ Ok []
unfolding texts_of
texts_of-none holds = refl

pub texts_of-read : (holds : List ℕ → Option (List ℕ)) (name : List ℕ) (names : List (List ℕ)) (text : List ℕ)
    → readable (holds name) ≡ Some text → texts_of holds (name ∷ names) ≡ behind_texts (text ∷ []) (texts_of holds names)
unfolding texts_of
texts_of-read holds name names text e = rw e (with_one text (texts_of holds names))
  where
    with_one : (text : List ℕ) (later : Result (List (List ℕ)) (List ℕ)) → with_text name (Some text) later ≡ behind_texts (text ∷ []) later
    with_one text (Ok texts) = refl
    with_one text (Err unread) = refl

pub texts_of-unread : (holds : List ℕ → Option (List ℕ)) (name : List ℕ) (names : List (List ℕ)) → readable (holds name) ≡ None
    → texts_of holds (name ∷ names) ≡ Err name
unfolding texts_of
texts_of-unread holds name names e = rw e refl

-- the next of the names that are left
next_name : (names : List (List ℕ)) (index : ℕ) (name : List ℕ) → index < length names → name ≡ get_or names index name
    → drop index names ≡ name ∷ drop (index + 1) names
next_name names index name within is = drop_more names index name within ∙ ap (λ n. n ∷ drop (index + 1) names) (sym is)

-- the next file gives no text
pub unread_next : (holds : List ℕ → Option (List ℕ)) (names done : List (List ℕ)) (index : ℕ) (name : List ℕ)
    → texts_of holds names ≡ behind_texts done (texts_of holds (drop index names)) → index < length names → name ≡ get_or names index name
    → readable (holds name) ≡ None → texts_of holds names ≡ Err name
unread_next holds names done index name so within is unread =
    so ∙ ap (λ t. behind_texts done t) (ap (texts_of holds) (next_name names index name within is) ∙ texts_of-unread holds name (drop (index + 1) names) unread)

-- the next file gives a text
pub read_next : (holds : List ℕ → Option (List ℕ)) (names done : List (List ℕ)) (index : ℕ) (name text : List ℕ)
    → texts_of holds names ≡ behind_texts done (texts_of holds (drop index names)) → index < length names → name ≡ get_or names index name
    → readable (holds name) ≡ Some text → texts_of holds names ≡ behind_texts (done ++ text ∷ []) (texts_of holds (drop (index + 1) names))
read_next holds names done index name text so within is read =
    so ∙ ap (λ t. behind_texts done t) (ap (texts_of holds) (next_name names index name within is) ∙ texts_of-read holds name (drop (index + 1) names) text read)
    ∙ behind_more done (text ∷ []) (texts_of holds (drop (index + 1) names))

-- all files gave their texts
pub read_all : (holds : List ℕ → Option (List ℕ)) (names done : List (List ℕ)) (index : ℕ)
    → texts_of holds names ≡ behind_texts done (texts_of holds (drop index names)) → length names ≤ index → texts_of holds names ≡ Ok done
read_all holds names done index so all =
    so ∙ ap (λ t. behind_texts done t) (at_drop_all (texts_of holds) names index all ∙ texts_of-none holds) ∙ ap (λ t. Ok t) (append-nil done)
