-- Worse damage never brings a storey back: each kind weighs at least as much as the one before it.
use Prim.Native.Nat.{ℕ, ◌+◌, ◌*◌, ◌≤◌}
use native.Mathlib.Omega.{arith}
use mathlib.Core.Bool.{true}
use mathlib.Core.List.{List, [], ◌∷◌}
use mathlib.Core.Path.{◌≡◌}
use lib.ListN.{length}
use Rattle.std.proofs.lemmas.Bool.Decides.{nat_tests}
use Rattle.records.specs.declared.Member.{Member}
use Rattle.records.specs.Notation.{total}
use Rattle.totals.specs.Totals.{weight_of}
use Rattle.storeys.specs.Storey.{damaged, risky_by_damage}
use Rattle.comparison.specs.Demand3.{MemberPairs}
use Rattle.comparison.specs.Pairing.{EveryPair}
use Rattle.comparison.proofs.Pairs.{total-le, length-equal}
use Rattle.comparison.proofs.Tests.{leb-carried}

pub weight-mono : (d d' : ℕ) → d ≤ d' → d' ≤ 4 → weight_of d ≤ weight_of d'
weight-mono d d' h l = grind (arith, nat_tests)

abbrev weighed : List Member → ℕ
weighed ms = 20 * damaged 1 ms + 28 * damaged 2 ms + 35 * damaged 3 ms + 140 * damaged 4 ms

each-weighs : (ms : List Member) → weighed ms ≡ total (λ m. weight_of m.damage) ms
unfolding damaged total
each-weighs [] = omega arith
each-weighs (m ∷ ms) = omega (arith, each-weighs ms)

pub damage-carried : {ms ns : List Member} (p : MemberPairs ms ns) → EveryPair (λ m n u. weight_of m.damage ≤ weight_of n.damage) p → risky_by_damage ms ≡ true → risky_by_damage ns ≡ true
unfolding risky_by_damage
damage-carried {ms} {ns} p u =
    leb-carried (7 * length ms) (weighed ms) (7 * length ns) (weighed ns)
    (λ (h : 7 * length ms ≤ weighed ms).
    omega (arith, h, each-weighs ms, each-weighs ns, length-equal p, total-le (λ m. weight_of m.damage) (λ m. weight_of m.damage) p u))
