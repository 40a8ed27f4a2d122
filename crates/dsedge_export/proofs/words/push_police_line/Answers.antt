use Rattle.std.proofs.Common.{◌≡◌, ◌*◌, ◌++◌, List, ℕ, append_assoc, codes}
use Rattle.device_core.specs.RteMeter.{bytes_a_second}
use Rattle.dsedge_texts.specs.Wording.{figure}
use Rattle.dsedge_export.specs.Words.{police_line}
use Rattle.dsedge_export.proofs.words.push_police_line.Goals as goal

-- parts one behind the other
police_parts : (text front rate middle burst key behind : List ℕ)
    → (((((text ++ front) ++ rate) ++ middle) ++ burst) ++ key) ++ behind
    ≡ text ++ (((((front ++ rate) ++ middle) ++ burst) ++ key) ++ behind)
police_parts text front rate middle burst key behind = simp append_assoc

pub returns : goal.returns
unfolding police_line
returns c =
    rw c.in_ok-extend_from_slice-4.ensures.items
    (rw c.in_ok-extend_from_slice-3.ensures.items
    (rw c.in_ok-push_figure-2.ensures
    (rw c.from.ensures
    (rw c.in_ok-extend_from_slice-2.ensures.items
    (rw c.in_ok-push_figure.ensures
    (rw c.bytes_a_second.ensures.value
    (rw c.in_ok-extend_from_slice.ensures.items
    (police_parts c.args.text.now.items (codes "actions add action police rate") (figure (8 * bytes_a_second c.args.own.rate)) (codes "bit burst") (figure c.args.own.burst)
    (codes " mtu 65535 conform-exceed ") c.args.behind.now))))))))
