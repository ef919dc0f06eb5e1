use Rattle.std.proofs.Common.{ℕ, ◌≡◌, ◌+◌, ◌-◌, ◌<◌, ◌∙◌, List, length, refl, sym, ap, drop, length-drop, get_or-drop, length-append, Bor, Option, Some, Iter, arith}
use Rattle.std.specs.declared.iter.Zip.{Zip}
use Rattle.std.specs.declared.iter.Skip.{Skip}
use Rattle.std.proofs.iter.Yields.{fronts}
use Rattle.std.specs.Iterator.{Yields}
use Rattle.std.specs.Iterator.Adapters.{zip_first, zip_second, skip_source, skip_count, skip_steps}
use Rattle.std.specs.List.{zip}
use Rattle.std.specs.Slice.Iter.{iter_rest}
use Rattle.std.proofs.lemmas.List.{get_or_default}
use Rattle.std.proofs.lemmas.Iterator.{YieldsList, zips, YieldsList-from_slice, YieldsList-from_zip}
use Rattle.std.proofs.lemmas.Iterator.Adapters.{YieldsList-from_skip}
use Rattle.std.proofs.lemmas.Iterator.Consumers.{YieldsList-at, YieldsList-turn, YieldsList-end}
use Rattle.std.proofs.lemmas.Slice.Zip.{length-zip, get_or-zip}
use Rattle.members.specs.declared.limits.Row.{Row}
use Rattle.members.specs.Limits.{row, row_at}
use Rattle.members.proofs.Interpolation.{alone, starts, inside-row, past-row}
use Rattle.members.proofs.limits.interpolate.Goals as goal

-- what the loop goes over: the pairs of places and limits after the first
pairs : (places limits : List ℕ) {a : Iter ℕ} {z : Zip (Iter ℕ) (Iter ℕ)} {s t : Skip (Zip (Iter ℕ) (Iter ℕ))} → iter_rest a ≡ places → zip_first z ≡ a → iter_rest (zip_second z) ≡ limits → skip_source s ≡ z → skip_count s ≡ 1 → t ≡ s → YieldsList (skip_steps (zips fronts fronts)) (λ p. (p.0.now, p.1.now)) t (drop 1 (zip places limits))
pairs places limits rest first second source count into =
    YieldsList-at into
    (YieldsList-from_skip 1 (YieldsList-at source (YieldsList-from_zip (YieldsList-at first (YieldsList-from_slice places rest)) (YieldsList-from_slice limits second))) count)

-- the row of a turn: the first has row 1
next-row : {S : Type 0} (places limits : List ℕ) (n : ℕ) → length places ≡ n → length limits ≡ n → {steps : S → Option (Bor ℕ × Bor ℕ) → S → Type 0} {s : S} → YieldsList steps (λ p. (p.0.now, p.1.now)) s (drop 1 (zip places limits)) → (xs : List (Bor ℕ × Bor ℕ)) {t u : S} {r : Option (Bor ℕ × Bor ℕ)} {at limit : Bor ℕ} {to : Row} → Yields steps s xs t → r ≡ Some (at, limit) → steps t r u → to ≡ row at.now limit.now → (length xs + 1 < n) × (to ≡ row_at places limits (length xs + 1))
next-row places limits n f g road xs {t} {u} {r} {at} {limit} y e step made =
    let w = YieldsList-turn road xs t y r u (at, limit) e step in
    let k = length xs in
    let short : k + 1 < n = omega (arith, w.0, length-drop 1 (zip places limits), length-zip places limits) in
    let swap : 1 + k ≡ k + 1 = omega arith in
    let place = get_or_default places (k + 1) at.now 0 (omega arith) in
    let limited = get_or_default limits (k + 1) limit.now 0 (omega arith) in
    let pair = rw swap at (w.1 ∙ get_or-drop 1 (zip places limits) k _ ∙ get_or-zip places limits (1 + k) _ (omega arith) (omega arith)) in
    (short, made ∙ ap (λ (p : ℕ × ℕ). row p.0 p.1) pair ∙ rw (place, limited) refl)

pub segment-requires : goal.segment-requires
segment-requires g c =
    let a = c.args in
    let road = pairs a.places.now a.limits.now c.iter.ensures.rest c.zip.ensures.first c.zip.ensures.second.0 c.skip-at-items.ensures.source c.skip-at-items.ensures.count c.into_iter-at-iterator.ensures.into_iter_gives in
    let to = next-row a.places.now a.limits.now g.row.N (omega arith) (omega arith) road c.loop-at.yielded {u = c.next.new.self} c.loop-at.yielded_by c.in-Some.is c.next.ensures.steps c.new-to.ensures in
    let sized = c.requires.1 in
    (omega arith, c.if-x-to.true, rw c.loop-at.invariant.0 (record { at = sized.at _ (omega arith); limit = sized.limit _ (omega arith) }), rw to.1 (record { at = sized.at _ to.0; limit = sized.limit _ to.0 }))

pub returns-then-x-from : goal.returns-then-x-from
returns-then-x-from g c = (c.alone.ensures ∙ sym (starts _ _ _ c.if-x-from.true) ∙ c.loop-at.invariant.1, rw c.alone.ensures (omega arith))

pub returns-then-x-to : goal.returns-then-x-to
returns-then-x-to g c =
    let a = c.args in
    let road = pairs a.places.now a.limits.now c.iter.ensures.rest c.zip.ensures.first c.zip.ensures.second.0 c.skip-at-items.ensures.source c.skip-at-items.ensures.count c.into_iter-at-iterator.ensures.into_iter_gives in
    let to = next-row a.places.now a.limits.now g.row.N (omega arith) (omega arith) road c.loop-at.yielded {u = c.next.new.self} c.loop-at.yielded_by c.in-Some.is c.next.ensures.steps c.new-to.ensures in
    (c.segment.ensures.0 ∙ rw to.1 (sym (inside-row a.places.now a.limits.now g.row.N _ to.0 c.loop-at.from a.x c.if-x-from.false (rw to.1 at c.if-x-to.true))) ∙ c.loop-at.invariant.1, c.segment.ensures.1)

pub loop-at-preserved : goal.loop-at-preserved
loop-at-preserved g c =
    let a = c.args in
    let road = pairs a.places.now a.limits.now c.iter.ensures.rest c.zip.ensures.first c.zip.ensures.second.0 c.skip-at-items.ensures.source c.skip-at-items.ensures.count c.into_iter-at-iterator.ensures.into_iter_gives in
    let to = next-row a.places.now a.limits.now g.row.N (omega arith) (omega arith) road c.loop-at.yielded {u = c.next.new.self} c.loop-at.yielded_by c.in-Some.is c.next.ensures.steps c.new-to.ensures in
    rw (length-append, to.1) (refl, sym (past-row a.places.now a.limits.now g.row.N _ to.0 c.loop-at.from a.x c.if-x-from.false (rw to.1 at c.if-x-to.false)) ∙ c.loop-at.invariant.1)

pub returns : goal.returns
returns g c =
    let a = c.args in
    let road = pairs a.places.now a.limits.now c.iter.ensures.rest c.zip.ensures.first c.zip.ensures.second.0 c.skip-at-items.ensures.source c.skip-at-items.ensures.count c.into_iter-at-iterator.ensures.into_iter_gives in
    let all = YieldsList-end road c.loop-at.yielded _ c.loop-at.yielded_by _ c.next.new.self c.in-None.is c.next.ensures.steps in
    let e : g.row.N - (length c.loop-at.yielded + 1) ≡ 0 = omega (arith, all.1, length-drop 1 (zip a.places.now a.limits.now), length-zip a.places.now a.limits.now) in
    (c.alone-2.ensures ∙ sym (alone c.loop-at.from c.args.x) ∙ rw e at c.loop-at.invariant.1, rw c.alone-2.ensures (omega arith))
