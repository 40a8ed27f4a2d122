-- What is said a part at a time.
use Rattle.std.proofs.Common.{◌≡◌, ℕ, Bool, true, false, List, [], ◌++◌, refl, sym, ap, ◌∙◌, inl, inr, append_assoc, append-nil}
use Rattle.pcap_capture.specs.declared.device.Outlet.{Ghosts}
use Rattle.dsedge_faults.specs.Faults.{IsTold}
use Rattle.dsedge_saying.specs.Saying.{HasSaid, IsSaid}

-- where nothing is said, that is what was asked for
pub nothing_said : (asked : Bool) (held : List ℕ) (failed : ℕ) → IsSaid asked held held failed failed
nothing_said true held failed = ([], inl (sym (append-nil held)))
nothing_said false held failed = (refl, refl)

pub unsaid : {F : Type 0} (g : Ghosts F) (asked : Bool) (outlet : F) → HasSaid g asked outlet outlet
unsaid g asked outlet = record {
  still = λ tells. tells;
  said = λ tells. nothing_said asked (g.held outlet) (g.failed outlet);
}

-- what is told, to its end or a front of it, stands behind what stood
told_behind : (text before after : List ℕ) (failed now : ℕ) → IsTold text before after failed now → (front : List ℕ) × (after ≡ before ++ front)
told_behind text before after failed now (inl whole) = (text, whole)
told_behind text before after failed now (inr front) = (front.0.0, front.0.3)

-- words, and then others
pub more_said : (asked : Bool) (before mid after : List ℕ) (failed first last : ℕ) → IsSaid asked before mid failed first → IsSaid asked mid after first last
    → IsSaid asked before after failed last
more_said true before mid after failed first last one two =
    let front = told_behind one.0 before mid failed first one.1 in
    let back = told_behind two.0 mid after first last two.1 in
    (front.0 ++ back.0, inl (back.1 ∙ ap (λ text. text ++ back.0) front.1 ∙ append_assoc before front.0 back.0))
more_said false before mid after failed first last one two = (two.0 ∙ one.0, two.1 ∙ one.1)

pub further_said : {F : Type 0} (g : Ghosts F) (asked : Bool) (old mid new : F) → HasSaid g asked old mid → HasSaid g asked mid new → HasSaid g asked old new
further_said g asked old mid new one two = record {
  still = λ tells. two.still (one.still tells);
  said = λ tells. more_said asked (g.held old) (g.held mid) (g.held new) (g.failed old) (g.failed mid) (g.failed new) (one.said tells) (two.said (one.still tells));
}
