-- Lots that go through lanes, and the texts that come of them.
use Rattle.std.proofs.Common.{◌≡◌, inl, inr, ℕ, ◌+◌, ◌≤◌, ◌<◌, Result, Ok, Err, IfOk, OnOk, is_ok, Bool, true, false, List, [], ◌∷◌, ◌++◌, length, Option, None, Some, IfNone, IfSome, refl, sym, ap, ap₂, subst, ◌∙◌, append_assoc, append-nil, length-append, arith}
use Rattle.std.proofs.lemmas.List.{nil_from_length}
use Rattle.pcap_capture.proofs.FrontLaws.{IsFrontOf-first}
use Rattle.pcap_capture.specs.Frames.{FrameValue}
use Rattle.pcap_capture.specs.Fronts.{IsFrontOf}
use Rattle.ds_conditioner.specs.Conditionings.{IsConditioned, IsSeenAtPort}
use Rattle.ds_conditioner.specs.Handings.{IsPassedInPart, IsPassedWhole}
use Rattle.ds_conditioner.specs.Lots.{LotValue}
use Rattle.ds_conditioner.specs.declared.conditioner.Conditioner.{Conditioner}
use Rattle.ds_conditioner.specs.declared.port.Port.{Port}
use Rattle.capture_reader.specs.Readings.{IsReadOn, read_by}
use Rattle.pcap_capture.specs.Counts.{IsOfReads}
use Rattle.pcap_capture.specs.Takings.{is_read_fault}
use Rattle.pcap_capture.specs.declared.fault.PcapFault.{PcapFault}
use Rattle.ds_marking.specs.Passings.{is_unread_in}
use Rattle.ds_marking.specs.declared.marking.Turn.{Turn}
use Rattle.ds_marking.specs.declared.fault.MarkFault.TheVariants.{NoMemory}
use Rattle.ds_marking.specs.declared.fault.MarkFault.{MarkFault}
use Rattle.ds_marking.specs.declared.marking.Passage.{Passage}
use Rattle.ds_conductor.specs.declared.run.Run.{Run}
use Rattle.capture_reader.specs.declared.reading.Progress.{Progress}
use Rattle.capture_reader.specs.declared.reading.Read.{Read}
use Rattle.ds_conductor.specs.Lanings.{AreLotsPassed, AreRight, AreWritten, IsAlong, IsCutWith, IsFailingAfter, IsFed, IsFedOn, IsTakenIn, read_last, IsLotPassedOn, IsPassedBy, IsPassedThrough, count_of, frames_of, joined}

-- ---- lots behind lots

pub frames_of-both : (xs ys : List (Option LotValue)) → frames_of (xs ++ ys) ≡ frames_of xs ++ frames_of ys
frames_of-both [] ys = refl
frames_of-both (None ∷ xs) ys = frames_of-both xs ys
frames_of-both (Some lot ∷ xs) ys = ap (λ fs. lot.frames ++ fs) (frames_of-both xs ys) ∙ sym (append_assoc lot.frames (frames_of xs) (frames_of ys))

pub frames_of-more : (xs : List (Option LotValue)) (lot : LotValue) → frames_of (xs ++ Some lot ∷ []) ≡ frames_of xs ++ lot.frames
frames_of-more xs lot = frames_of-both xs (Some lot ∷ []) ∙ ap (λ fs. frames_of xs ++ fs) (append-nil lot.frames)

pub frames_of-end : (xs : List (Option LotValue)) → frames_of (xs ++ None ∷ []) ≡ frames_of xs
frames_of-end xs = frames_of-both xs (None ∷ []) ∙ append-nil (frames_of xs)

pub count_of-both : (xs ys : List (Option LotValue)) → count_of (xs ++ ys) ≡ count_of xs + count_of ys
count_of-both [] ys = omega arith
count_of-both (None ∷ xs) ys = count_of-both xs ys
count_of-both (Some lot ∷ xs) ys = let e = count_of-both xs ys in omega (arith, e)

pub count_of-more : (xs : List (Option LotValue)) (lot : LotValue) → count_of (xs ++ Some lot ∷ []) ≡ count_of xs + 1
count_of-more xs lot = count_of-both xs (Some lot ∷ [])

pub count_of-end : (xs : List (Option LotValue)) → count_of (xs ++ None ∷ []) ≡ count_of xs
count_of-end xs = let e = count_of-both xs (None ∷ []) in omega (arith, e)

-- where no lot is, no frame is
pub none_counted : (xs : List (Option LotValue)) → count_of xs ≡ 0 → frames_of xs ≡ []
none_counted [] none = refl
none_counted (None ∷ xs) none = none_counted xs none
none_counted (Some lot ∷ xs) none = absurd (omega (arith, none))

pub joined-more : (xs : List (List ℕ)) (text : List ℕ) → joined (xs ++ text ∷ []) ≡ joined xs ++ text
joined-more [] text = append-nil text
joined-more (x ∷ xs) text = ap (λ t. x ++ t) (joined-more xs text) ∙ sym (append_assoc x (joined xs) text)

pub right_both : (p : Port) (xs ys : List (Option LotValue)) → AreRight p xs → AreRight p ys → AreRight p (xs ++ ys)
right_both p [] ys some more = more
right_both p (x ∷ xs) ys some more = (some.0, right_both p xs ys some.1 more)

pub right_front : (p : Port) (xs ys : List (Option LotValue)) → AreRight p (xs ++ ys) → AreRight p xs
right_front p [] ys all = tt
right_front p (x ∷ xs) ys all = (all.0, right_front p xs ys all.1)

pub right_last : (p : Port) (xs ys : List (Option LotValue)) → AreRight p (xs ++ ys) → AreRight p ys
right_last p [] ys all = all
right_last p (x ∷ xs) ys all = right_last p xs ys all.1

-- ---- what passes along

pub along_none : (p : Port) (came went : List (Option LotValue)) → came ≡ [] → went ≡ [] → IsAlong p came went
along_none p came went none nil = record {
  count = let a = ap count_of none in let b = ap count_of nil in omega (arith, a, b);
  frames = λ same. ap frames_of nil ∙ sym (ap frames_of none);
  right = λ all. subst (λ items. AreRight p items) (sym nil) tt;
}

-- one lot more
pub along_more : (p : Port) (came went came_now went_now : List (Option LotValue)) (lot now : LotValue) → IsAlong p came went → now.frames ≡ lot.frames → (IsSeenAtPort p lot → IsSeenAtPort p now)
    → came_now ≡ came ++ Some lot ∷ [] → went_now ≡ went ++ Some now ∷ [] → IsAlong p came_now went_now
along_more p came went came_now went_now lot now was same seen in_now out_now =
    let a : count_of came_now ≡ count_of came + 1 = ap count_of in_now ∙ count_of-more came lot in
    let b : count_of went_now ≡ count_of went + 1 = ap count_of out_now ∙ count_of-more went now in record {
      count = let n = was.count in omega (arith, a, b, n);
      frames = λ even.
          let before : count_of went ≡ count_of came = omega (arith, a, b, even) in
          ap frames_of out_now ∙ frames_of-more went now ∙ ap₂ (λ fs gs. fs ++ gs) (was.frames before) same ∙ sym (ap frames_of in_now ∙ frames_of-more came lot);
      right = λ all.
          let told = subst (λ items. AreRight p items) in_now all in
          subst (λ items. AreRight p items) (sym out_now)
          (right_both p went (Some now ∷ []) (was.right (right_front p came (Some lot ∷ []) told)) (seen (right_last p came (Some lot ∷ []) told).0, tt));
    }

-- the end of the lots
pub along_end : (p : Port) (came went came_now went_now : List (Option LotValue)) → IsAlong p came went → came_now ≡ came ++ None ∷ [] → went_now ≡ went ++ None ∷ [] → IsAlong p came_now went_now
along_end p came went came_now went_now was in_now out_now =
    let a : count_of came_now ≡ count_of came = ap count_of in_now ∙ count_of-end came in
    let b : count_of went_now ≡ count_of went = ap count_of out_now ∙ count_of-end went in record {
      count = let n = was.count in omega (arith, a, b, n);
      frames = λ even.
          let before : count_of went ≡ count_of came = omega (arith, a, b, even) in
          ap frames_of out_now ∙ frames_of-end went ∙ was.frames before ∙ sym (ap frames_of in_now ∙ frames_of-end came);
      right = λ all.
          subst (λ items. AreRight p items) (sym out_now)
          (right_both p went (None ∷ []) (was.right (right_front p came (None ∷ []) (subst (λ items. AreRight p items) in_now all))) (tt, tt));
    }

-- what is taken out of a lane is a front of what is put in
pub along_lane : (p : Port) (put taken rest : List (Option LotValue)) → put ≡ taken ++ rest → IsAlong p put taken
along_lane p put taken rest parted =
    let both : count_of put ≡ count_of taken + count_of rest = ap count_of parted ∙ count_of-both taken rest in record {
      count = omega (arith, both);
      frames = λ even.
          let none : count_of rest ≡ 0 = omega (arith, both, even) in
          sym (ap frames_of parted ∙ frames_of-both taken rest ∙ ap (λ fs. frames_of taken ++ fs) (none_counted rest none) ∙ append-nil (frames_of taken));
      right = λ all. right_front p taken rest (subst (λ items. AreRight p items) parted all);
    }

pub along_both : (p : Port) (first middle last : List (Option LotValue)) → IsAlong p first middle → IsAlong p middle last → IsAlong p first last
along_both p first middle last a b = record {
  count = let m = a.count in let n = b.count in omega (arith, m, n);
  frames = λ even.
      let m = a.count in
      let n = b.count in
      let one : count_of middle ≡ count_of first = omega (arith, m, n, even) in
      let other : count_of last ≡ count_of middle = omega (arith, m, n, even) in
      b.frames other ∙ a.frames one;
  right = λ all. b.right (a.right all);
}

-- ---- what is taken in

whole_both : (p : Port) (old middle new : Conditioner) (fs gs : List FrameValue) (text more : List ℕ) → IsPassedWhole p old middle fs text → IsPassedWhole p middle new gs more
    → IsPassedWhole p old new (fs ++ gs) (text ++ more)
whole_both p old middle new fs gs text more one other before shown at =
    subst (λ frames. IsConditioned p true frames (shown ++ (text ++ more)) new) (append_assoc before fs gs)
    (subst (λ t. IsConditioned p true ((before ++ fs) ++ gs) t new) (append_assoc shown text more) (other (before ++ fs) (shown ++ text) (one before shown at)))

part_both : (p : Port) (old middle new : Conditioner) (fs gs : List FrameValue) (text more : List ℕ) → IsPassedWhole p old middle fs text → IsPassedInPart p middle new gs more
    → IsPassedInPart p old new (fs ++ gs) (text ++ more)
part_both p old middle new fs gs text more one other before shown at =
    let part = other (before ++ fs) (shown ++ text) (one before shown at) in (
      fs ++ part.0,
      part.1,
      part.2,
      ap (λ it. fs ++ it) part.3 ∙ sym (append_assoc fs part.0 part.1),
      subst (λ frames. IsConditioned p true frames ((shown ++ (text ++ more)) ++ part.2) new) (append_assoc before fs part.0)
          (subst (λ t. IsConditioned p true ((before ++ fs) ++ part.0) (t ++ part.2) new) (append_assoc shown text more) part.4),
    )

part_more : (p : Port) (old new : Conditioner) (fs gs : List FrameValue) (text : List ℕ) → IsPassedInPart p old new fs text → IsPassedInPart p old new (fs ++ gs) text
part_more p old new fs gs text one before shown at =
    let part = one before shown at in
    (part.0, part.1 ++ gs, part.2, ap (λ it. it ++ gs) part.3 ∙ append_assoc part.0 part.1 gs, part.4)

none_whole : (p : Port) (c : Conditioner) → IsPassedWhole p c c [] []
none_whole p c before shown at =
    subst (λ frames. IsConditioned p true frames (shown ++ []) c) (sym (append-nil before)) (subst (λ t. IsConditioned p true before t c) (sym (append-nil shown)) at)

pub passed_none : (p : Port) (c : Conditioner) (taken : List (Option LotValue)) (put : List (List ℕ)) → taken ≡ [] → put ≡ [] → AreLotsPassed false p c c taken put
passed_none p c taken put none nil = record {
  even = ap length nil ∙ sym (ap count_of none);
  records = omega arith;
  passed = λ all. subst (λ items. IsPassedWhole p c c (frames_of items) (joined put)) (sym none) (subst (λ texts. IsPassedWhole p c c [] (joined texts)) (sym nil) (none_whole p c));
  still = λ nought. (refl, refl);
}

-- one lot more
pub passed_more : (p : Port) (old middle new : Conditioner) (taken taken_now : List (Option LotValue)) (put put_now : List (List ℕ)) (lot : LotValue) (text : List ℕ) (starved now : Bool)
    → AreLotsPassed starved p old middle taken put → IsLotPassedOn p middle new lot starved now text → taken_now ≡ taken ++ Some lot ∷ [] → put_now ≡ put ++ text ∷ []
    → AreLotsPassed now p old new taken_now put_now
passed_more p old middle new taken taken_now put put_now lot text starved now was one in_now out_now =
    let frames : frames_of taken_now ≡ frames_of taken ++ lot.frames = ap frames_of in_now ∙ frames_of-more taken lot in
    let shown : joined put_now ≡ joined put ++ text = ap joined out_now ∙ joined-more put text in record {
      even =
          let a = ap length out_now in
          let b = length-append put (text ∷ []) in
          let c = ap count_of in_now ∙ count_of-more taken lot in
          let e = was.even in
          omega (arith, a, b, c, e);
      records =
          let a = was.records in
          let b = one.records in
          let c = ap length frames in
          let d = length-append (frames_of taken) lot.frames in
          omega (arith, a, b, c, d);
      passed = λ all.
          let told = subst (λ items. AreRight p items) in_now all in
          let before = was.passed (right_front p taken (Some lot ∷ []) told) in
          let own = (right_last p taken (Some lot ∷ []) told).0 in
          subst (λ fs. IsPassedBy now p old new fs (joined put_now)) (sym frames)
          (subst (λ t. IsPassedBy now p old new (frames_of taken ++ lot.frames) t) (sym shown) (by starved now before one own));
      still = λ nought. let c = ap count_of in_now ∙ count_of-more taken lot in absurd (omega (arith, c, nought));
    }
  where
    by : (s n : Bool) → IsPassedBy s p old middle (frames_of taken) (joined put) → IsLotPassedOn p middle new lot s n text → IsSeenAtPort p lot
        → IsPassedBy n p old new (frames_of taken ++ lot.frames) (joined put ++ text)
    by true true before it own =
        let same = it.stays refl in
        subst (λ (c : Conditioner). IsPassedInPart p old c (frames_of taken ++ lot.frames) (joined put ++ text)) (sym same.1)
        (subst (λ t. IsPassedInPart p old middle (frames_of taken ++ lot.frames) t) (sym (ap (λ t. joined put ++ t) same.2 ∙ append-nil (joined put)))
        (part_more p old middle (frames_of taken) lot.frames (joined put) before))
    by true false before it own = let no = (it.stays refl).0 in absurd cc
    by false true before it own = part_both p old middle new (frames_of taken) lot.frames (joined put) text before (it.passed refl own)
    by false false before it own = whole_both p old middle new (frames_of taken) lot.frames (joined put) text before (it.passed refl own)

pub passed_end : (p : Port) (old new : Conditioner) (taken taken_now : List (Option LotValue)) (put : List (List ℕ)) (starved : Bool) → AreLotsPassed starved p old new taken put
    → taken_now ≡ taken ++ None ∷ [] → AreLotsPassed starved p old new taken_now put
passed_end p old new taken taken_now put starved was in_now =
    let frames : frames_of taken_now ≡ frames_of taken = ap frames_of in_now ∙ frames_of-end taken in record {
      even = was.even ∙ sym (ap count_of in_now ∙ count_of-end taken);
      records = let a = was.records in let b = ap length frames in omega (arith, a, b);
      passed = λ all.
          subst (λ fs. IsPassedBy starved p old new fs (joined put)) (sym frames) (was.passed (right_front p taken (None ∷ []) (subst (λ items. AreRight p items) in_now all)));
      still = λ nought. was.still (sym (ap count_of in_now ∙ count_of-end taken) ∙ nought);
    }

-- ---- texts that are written

pub text_more : (first : List ℕ) (taken taken_now : List (List ℕ)) (text held now : List ℕ) → taken_now ≡ taken ++ text ∷ [] → held ≡ first ++ joined taken → now ≡ held ++ text → now ≡ first ++ joined taken_now
text_more first taken taken_now text held now more was is =
    is ∙ ap (λ it. it ++ text) was ∙ append_assoc first (joined taken) text ∙ ap (λ it. first ++ it) (sym (ap joined more ∙ joined-more taken text))

pub text_front : (first : List ℕ) (taken taken_now : List (List ℕ)) (text held now : List ℕ) → taken_now ≡ taken ++ text ∷ [] → held ≡ first ++ joined taken → IsFrontOf held text now
    → IsFrontOf first (joined taken_now) now
text_front first taken taken_now text held now more was front = (
  joined taken ++ front.0,
  front.1,
  ap joined more ∙ joined-more taken text ∙ ap (λ it. joined taken ++ it) front.2 ∙ sym (append_assoc (joined taken) front.0 front.1),
  front.3 ∙ ap (λ it. it ++ front.0) was ∙ append_assoc first (joined taken) front.0,
)

joined-both : (xs ys : List (List ℕ)) → joined (xs ++ ys) ≡ joined xs ++ joined ys
joined-both [] ys = refl
joined-both (x ∷ xs) ys = ap (λ t. x ++ t) (joined-both xs ys) ∙ sym (append_assoc x (joined xs) (joined ys))

pub front_more : (first : List ℕ) (taken taken_now texts : List (List ℕ)) (now : List ℕ) → taken_now ≡ taken ++ texts → IsFrontOf first (joined taken) now → IsFrontOf first (joined taken_now) now
front_more first taken taken_now texts now more front =
    subst (λ it. IsFrontOf first it now) (sym (ap joined more ∙ joined-both taken texts)) (IsFrontOf-first first now (joined taken) (joined texts) front)

-- one lot more that was seen at a port, or not yet
pub right_more : (p : Port) (put put_now : List (Option LotValue)) (lot : LotValue) → put_now ≡ put ++ Some lot ∷ [] → AreRight p put → IsSeenAtPort p lot → AreRight p put_now
right_more p put put_now lot more was seen = subst (λ items. AreRight p items) (sym more) (right_both p put (Some lot ∷ []) was (seen, tt))

-- a count that fell behind one that is no greater than another
pub sooner : {T E : Type 0} (result : Result T E) (last middle first : ℕ) → middle ≤ first → OnOk result (last < middle) → OnOk result (last < first)
sooner (Ok value) last middle first most less = omega (arith, most, less)
sooner (Err fault) last middle first most less = tt

-- the end of the lots behind those that were put
pub right_end : (p : Port) (put put_now : List (Option LotValue)) → put_now ≡ put ++ None ∷ [] → AreRight p put → AreRight p put_now
right_end p put put_now more was = subst (λ items. AreRight p items) (sym more) (right_both p put (None ∷ []) was (tt, tt))

pub fed_end : (p : Port) (tells : Type 0) (left more : List ℕ) (before after : Progress) (put put_now : List (Option LotValue)) (result : Result Read MarkFault) → put_now ≡ put ++ None ∷ []
    → IsFed p tells left more before after put result → IsFed p tells left more before after put_now result
fed_end p tells left more before after put put_now result behind was = record {
  right = right_end p put put_now behind was.right;
  read = λ gone bytes given at.
      subst (λ (fs : List FrameValue). IsFedOn (gone ++ fs) bytes more after result) (sym (ap frames_of behind ∙ frames_of-end put)) (was.read gone bytes given at);
  stays = was.stays;
}

-- no text is left where none is on its way
pub none_left : (texts taken taken_now : List (List ℕ)) → taken_now ≡ taken ++ texts → length texts ≡ 0 → taken_now ≡ taken
none_left texts taken taken_now more none = more ∙ ap (λ it. taken ++ it) (nil_from_length texts none) ∙ append-nil taken

-- what was drained is written, and what is left is let go
pub drained : {T E : Type 0} (result : Result T E) (first held : List ℕ) (taken taken_now texts : List (List ℕ)) (left : ℕ) → taken_now ≡ taken ++ texts → length texts ≡ left → OnOk result (left ≡ 0)
    → AreWritten result first (joined taken) held → AreWritten result first (joined taken_now) held
drained (Ok value) first held taken taken_now texts left more long none was = was ∙ ap (λ it. first ++ joined it) (sym (none_left texts taken taken_now more (long ∙ none)))
drained (Err fault) first held taken taken_now texts left more long none was = front_more first taken taken_now texts held more was

-- ---- all threads together

-- What was put went through to those that took it in, and all their texts came back.
pub through : (p : Port) (old new : Conditioner) (starved : Bool) (put taken : List (Option LotValue)) (texts came rest : List (List ℕ)) → IsAlong p put taken → texts ≡ came ++ rest
    → length came ≡ count_of put → AreLotsPassed starved p old new taken texts → AreRight p put → IsPassedThrough starved p old new put came
through p old new starved put taken texts came rest along parted even passed right =
    let most = along.count in
    let each = passed.even in
    let a = ap length parted in
    let b = length-append came rest in
    let all : count_of taken ≡ count_of put = omega (arith, most, each, a, b, even) in
    let none : length rest ≡ 0 = omega (arith, most, each, a, b, even) in
    let frames = along.frames all in
    let same : texts ≡ came = parted ∙ ap (λ it. came ++ it) (nil_from_length rest none) ∙ append-nil came in record {
      records = let r = passed.records in let f = ap length frames in omega (arith, r, f);
      passed =
          subst (λ fs. IsPassedBy starved p old new fs (joined came)) frames
          (subst (λ ts. IsPassedBy starved p old new (frames_of taken) (joined ts)) same (passed.passed (along.right right)));
    }

pub front_of_written : {T E : Type 0} (result : Result T E) (before text now : List ℕ) → AreWritten result before text now → IsFrontOf before text now
front_of_written (Ok done) before text now is = (text, [], sym (append-nil text), is)
front_of_written (Err fault) before text now is = is

-- ---- a turn of threads

pub read_fed : (gone : List FrameValue) (bytes more : List ℕ) (progress : Progress) (result : Result Read MarkFault) → IsFedOn gone bytes more progress result → IsReadOn gone bytes more progress (read_last result)
read_fed gone bytes more progress (Ok read) at = at
read_fed gone bytes more progress (Err fault) at = at

pub taken_by : (starved : Bool) (p : Port) (old new : Conditioner) (gone taken : List FrameValue) (text own : List ℕ) → IsPassedBy starved p old new taken own → IsConditioned p true gone text old
    → IsTakenIn starved p gone taken text own new
taken_by true p old new gone taken text own passed at = passed gone text at
taken_by false p old new gone taken text own passed at = passed gone text at

pub written_behind : {T E : Type 0} (result : Result T E) (before first middle own now : List ℕ) → middle ≡ before ++ first → AreWritten result middle own now → AreWritten result before (first ++ own) now
written_behind (Ok done) before first middle own now was is = is ∙ ap (λ it. it ++ own) was ∙ append_assoc before first own
written_behind (Err fault) before first middle own now was front = (
  first ++ front.0,
  front.1,
  ap (λ it. first ++ it) front.2 ∙ sym (append_assoc first front.0 front.1),
  front.3 ∙ ap (λ it. it ++ front.0) was ∙ append_assoc before first front.0,
)

pub written_same : {T E : Type 0} (result : Result T E) (before text other now : List ℕ) → text ≡ other → AreWritten result before text now → AreWritten result before other now
written_same result before text other now same is = subst (λ it. AreWritten result before it now) same is

-- ---- runs

-- what holds of a run by its parts
pub run_told : (result : Option Run) (starved : Bool) (fed : Option (Result Read MarkFault × Result (Unit {0}) MarkFault)) (P : Run → Type 0)
    → IfSome result (λ run. (run.starved ≡ starved) × (fed ≡ Some (run.read, run.written)))
    → ((read : Result Read MarkFault) (written : Result (Unit {0}) MarkFault) → fed ≡ Some (read, written) → P (record { read = read; written = written; starved = starved })) → IfSome result P
run_told None starved fed P told make = tt
run_told (Some run) starved fed P told make =
    subst (λ (s : Bool). P (record { read = run.read; written = run.written; starved = s })) (sym told.0) (make run.read run.written told.1)

pub none_told : (result : Option Run) (fed : Option (Result Read MarkFault × Result (Unit {0}) MarkFault)) (Q : Type 0) → IfNone result (fed ≡ None) → (fed ≡ None → Q) → IfNone result Q
none_told None fed Q told make = make told
none_told (Some run) fed Q told make = tt

-- a passage of which nothing changed
pub same_passage : (old new : Passage) → new.port ≡ old.port → new.conditioner ≡ old.conditioner → new.out ≡ old.out → new.progress ≡ old.progress → new ≡ old
same_passage old new port conditioner out progress =
    ap (λ x. let q : Passage = record { port = x; conditioner = new.conditioner; out = new.out; progress = new.progress } in q) port
    ∙ ap (λ x. let q : Passage = record { port = old.port; conditioner = x; out = new.out; progress = new.progress } in q) conditioner
    ∙ ap (λ x. let q : Passage = record { port = old.port; conditioner = old.conditioner; out = x; progress = new.progress } in q) out
    ∙ ap (λ x. let q : Passage = record { port = old.port; conditioner = old.conditioner; out = old.out; progress = x } in q) progress

-- where no lot was put, none was taken
pub nothing_taken : (p : Port) (put taken : List (Option LotValue)) → IsAlong p put taken → put ≡ [] → count_of taken ≡ 0
nothing_taken p put taken along none = let a = along.count in let b = ap count_of none in omega (arith, a, b)

-- where more may come behind a run, the device that gives bytes was asked
pub asked_by : (read : Result Read MarkFault) (written : Result (Unit {0}) MarkFault) (now before : ℕ) → read_last read ≡ Ok true → is_ok written ≡ true → IsCutWith read written
    → IfOk read (λ one. OnOk (read_by one) (now < before)) → now < before
asked_by (Ok one) written now before more well cut fewer = by (read_by one) more fewer
  where
    by : (result : Result Bool PcapFault) → result ≡ Ok true → OnOk result (now < before) → now < before
    by (Ok value) is less = less
    by (Err fault) is less = absurd cc
asked_by (Err fault) written now before more well cut fewer =
    let broken : is_ok written ≡ false = ap is_ok cut in
    let wrong : true ≡ false = sym well ∙ broken in
    absurd cc

-- what was read of the device that gives bytes, where a run was ended
pub reads_by : (read : Result Read MarkFault) (written : Result (Unit {0}) MarkFault) (result : Result Turn MarkFault) (held kept failed now calls : ℕ) → IsCutWith read written
    → IsFailingAfter written result held kept → IfOk read (λ one. IsOfReads (is_read_fault (read_by one)) failed now calls)
    → (IsOfReads (is_read_fault (read_last read)) failed now calls → IfOk result (λ turn. IsOfReads (is_unread_in turn) failed now calls))
    → IfOk result (λ turn. IsOfReads (is_unread_in turn) failed now calls)
reads_by (Ok one) written result held kept failed now calls cut failing reads ending = ending reads
reads_by (Err fault) written result held kept failed now calls cut failing reads ending = by result (told (rw cut at failing))
  where
    told : IsFailingAfter (Err fault) result held kept → (why : MarkFault) × (result ≡ Err why)
    told (same, inl is) = (fault, is)
    told (same, inr is) = (NoMemory, is)

    by : (other : Result Turn MarkFault) → (why : MarkFault) × (other ≡ Err why) → IfOk other (λ turn. IsOfReads (is_unread_in turn) failed now calls)
    by (Ok turn) wrong = let is = wrong.1 in absurd cc
    by (Err why) is = tt
