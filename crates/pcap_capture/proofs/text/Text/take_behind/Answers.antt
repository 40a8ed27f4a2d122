use Rattle.std.proofs.Common.{◌≡◌, ◌+◌, ◌-◌, ◌≤◌, ◌++◌, length, take, drop, length-append, length-drop, ap, ◌∙◌, arith}
use Rattle.std.proofs.lemmas.List.{length-take-le}
use Rattle.pcap_capture.proofs.TextLaws.{taken_behind}
use Rattle.pcap_capture.proofs.text.Text.take_behind.Goals as goal

pub returns-in-Ok-clause-ok : goal.returns-in-Ok-clause-ok
returns-in-Ok-clause-ok g c =
    let room = c.reach.new.room in
    let old = c.self.inside.room.items in
    let front = c.self.inside.filled in
    let whole = c.as_mut_slice.result.now in
    let taken = c.in-Ok.taken in
    let buffer = c.take.new.buffer in
    let within : taken ≤ length buffer = c.in-Ok.ensures.within in
    let size : c.in-Some.size ≡ front + c.args.most = c.in-Some.ensures.1 in
    let long : c.in-Some.size ≤ length room.items = c.in_ok-reach.ensures.long in
    let all : length whole ≡ room.len = c.as_mut_slice.ensures.len in
    let same : length whole ≡ length room.items = ap length c.as_mut_slice.ensures.value in
    let given : length buffer ≡ length (take (c.in-Some.size - front) (drop front whole)) = c.take.auto.buffer in
    let count : length (take (c.in-Some.size - front) (drop front whole)) ≡ c.in-Some.size - front = length-take-le (c.in-Some.size - front) (drop front whole) (omega (arith, length-drop front whole)) in
    let kept = c.in_ok-reach.ensures.kept in
    let tail = drop (c.in-Some.size - front) (drop front whole) in
    let there : length (take front whole) ≡ front = length-take-le front whole (omega arith) in (
      take taken buffer,
      length-take-le taken buffer within,
      omega (arith, within, given, count, size),
      taken_behind room old kept.0 whole buffer tail front taken (c.as_mut_slice.ensures.value ∙ kept.1) c.self.invariant within
          (omega (
            arith,
            length-append (take front whole) (buffer ++ tail),
            length-append buffer tail,
            there,
            given,
            count,
            all,
            size,
            long,
            same,
            length-drop (c.in-Some.size - front) (drop front whole),
            length-drop front whole,
          ))
          ∙ ap (λ bytes. bytes ++ take taken buffer) c.self.view_is,
      λ tells. c.in-Ok.ensures.bytes tells,
    )
