use Rattle.std.proofs.Common.{rules, arith, ◌≡◌, ◌<◌, ◌≤◌, ◌^◌, length, take, refl, sym, ap, subst, ◌∙◌, length-take-le}
use Rattle.std.specs.List.{AllByRecursion}
use Rattle.std.proofs.lemmas.Slice.Zip.{AllZip-long}
use Rattle.ds_certificate.specs.Bounds.{HasShape}
use Rattle.ds_checker.specs.Acceptance.{table_of}
use Rattle.ds_checker.specs.Sums.{AreBelow}
use Rattle.ds_checker.proofs.BoundLaws.{item_ahead}
use Rattle.ds_checker.proofs.ChangeLaws.{kept-below, kept-long, kept-next, kept-none, kept-whole, table}
use Rattle.ds_checker.proofs.LoadLaws.{shaped_all, shaped_behind, zip_inside}
use Rattle.ds_checker.proofs.table.gathered.Goals as goal

pub loop-number-init : goal.loop-number-init
loop-number-init c =
    let candidate = c.args.candidate.now in
    record {
      kept = kept-none candidate.domain c.in_ok-sums.sums.items c.in_ok-sums.ensures.value c.in_ok-sums.ensures.short;
      shaped = shaped_all candidate.domain _ candidate.contracts.items _ candidate.certificate (search rules) (search rules) c.requires.shaped;
    }

pub add_on_route-requires-clause-places : goal.add_on_route-requires-clause-places
add_on_route-requires-clause-places c =
    ap length c.as_mut_slice.ensures.value
    ∙ kept-long (table c.args.candidate.now.domain (take c.loop-number.number c.as_slice-contracts.result.now) (take c.loop-number.number c.bounds-rows.result.now)) c.loop-number.sums.items
    c.loop-number.invariant.kept

pub add_on_route-requires-clause-room : goal.add_on_route-requires-clause-room
add_on_route-requires-clause-room c =
    let contracts = c.as_slice-contracts.result.now in
    let most : length contracts < 2 ^ 64 = search rules in
    let few : length (take c.loop-number.number contracts) < 2 ^ 64 = omega (arith, most, length-take-le c.loop-number.number contracts (omega (arith, c.loop-number-test.true)), c.loop-number-test.true) in
    subst (AllByRecursion (AreBelow (2 ^ 120))) (sym c.as_mut_slice.ensures.value)
    (kept-below (table c.args.candidate.now.domain (take c.loop-number.number contracts) (take c.loop-number.number c.bounds-rows.result.now)) c.loop-number.sums.items few c.loop-number.invariant.kept)

pub loop-number-preserved : goal.loop-number-preserved
loop-number-preserved c =
    let d = c.args.candidate.now.domain in
    let i = c.loop-number.number in
    let contracts = c.as_slice-contracts.result.now in
    let rows = c.bounds-rows.result.now in
    let contract = c.index-contracts-number.result in
    let row = c.index-rows-number.result in
    let inside = zip_inside (HasShape d) contracts rows i c.loop-number.invariant.shaped c.loop-number-test.true in
    record {
      kept = kept-next d contracts rows i contract row c.hops.result.now c.loop-number.sums.items c.as_mut_slice.result.now c.add_on_route.new.sums _ c.loop-number.sums.len
          c.loop-number-test.true inside c.index-contracts-number.is c.index-rows-number.is c.loop-number.invariant.kept c.hops.ensures c.as_mut_slice.ensures.value
          c.as_mut_slice.ensures.len (rw c.contract.ensures at c.add_on_route.ensures.value) (rw c.contract.ensures at c.add_on_route.ensures.small) refl;
      shaped = (shaped_behind d _ _ contract _ _ row (item_ahead contracts i contract c.loop-number-test.true c.index-contracts-number.is)
          (item_ahead rows i row inside c.index-rows-number.is) c.loop-number.invariant.shaped).1;
    }

pub returns : goal.returns
returns c =
    let t = table_of c.args.candidate.now in
    let contracts = c.as_slice-contracts.result.now in
    let rows = c.bounds-rows.result.now in
    let is_contracts : contracts ≡ t.contracts = search rules in
    let is_rows : rows ≡ t.certificate = search rules in
    let ended : length contracts ≤ c.loop-number.number = omega arith in
    let level = AllZip-long (HasShape t.domain) contracts rows (shaped_all t.domain contracts t.contracts rows t.certificate is_contracts is_rows c.requires.shaped) in
    kept-whole t contracts rows c.loop-number.sums.items c.loop-number.number is_contracts is_rows ended (omega (arith, ended, level)) c.loop-number.invariant.kept
