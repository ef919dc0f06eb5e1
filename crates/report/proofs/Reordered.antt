-- Reordering the members of storeys permutes their `M` lines in each load case and changes no other byte of the sheet.
use Prim.Native.Nat.{ℕ, zero, suc}
use native.Mathlib.Omega.{arith}
use mathlib.Core.Bool.{Bool, true, false, ◌||◌}
use mathlib.Core.List.{List, [], ◌∷◌, ◌++◌, map, append_assoc, Permᴰ}
use mathlib.Core.Path.{◌≡◌, refl, ap, ◌∙◌}
use lib.Dec.{eqb}
use lib.ListN.{length}
use Rattle.records.specs.Records.{survey_of, case_count, shear_of, in_case}
use Rattle.records.specs.Notation.{any_below, total, any_of}
use Rattle.records.specs.declared.Header.{Header}
use Rattle.records.specs.declared.Storey.{Storey}
use Rattle.records.specs.declared.Member.{Member}
use Rattle.members.specs.Finding.{finding, flag}
use Rattle.totals.specs.Totals.{wall_shear}
use Rattle.storeys.specs.Storey.{published_rules, meets_wall_share, member_axial, axial_total_of, over, shear_if_over, over_shear_of, some_over, damaged, risky_by_damage, case_risky, storey_risky, storey_finding, finding_in}
use Rattle.checks.specs.Rows.{storey_in, members_of}
use Rattle.storeys.specs.Building.{risky_at, tilted, some_risky, building_risky}
use Rattle.report.specs.Sheet.{member_line, storey_line, building_line, member_lines, case_lines, cases_lines, storey_lines, storeys_lines, sheet}

-- texts, one after another
unfoldable pub joined : List (List ℕ) → List ℕ
joined [] = []
joined (t ∷ ts) = t ++ joined ts

abbrev pub lines_of : ℕ → ℕ → Bool → ℕ → List Member → List (List ℕ)
lines_of form k met c ms = map (λ m. member_line form c m.number (finding k met (in_case c m))) ms

-- a storey's part in case c for its members in two orders: each member's `M` line, in another order, and the same last line
pub record OtherOrder (form k : ℕ) (s : Storey) (ms ns : List Member) (c : ℕ) : Type 0 where
  pub met : Bool
  pub last : List ℕ
  pub reordered : Permᴰ (lines_of form k met c ms) (lines_of form k met c ns)
  pub first-is : case_lines form k s ms c ≡ joined (lines_of form k met c ms) ++ last
  pub second_is : case_lines form k s ns c ≡ joined (lines_of form k met c ns) ++ last

lines-joined : (form k : ℕ) (met : Bool) (c : ℕ) (ms : List Member) → member_lines form k met c ms ≡ joined (lines_of form k met c ms)
unfolding member_lines joined
lines-joined form k met c [] = refl
lines-joined form k met c (m ∷ ms) = rw (lines-joined form k met c ms)

total-same : {A : Type 0} (f : A → ℕ) {xs ys : List A} → Permᴰ xs ys → total f xs ≡ total f ys
unfolding total
total-same f Permᴰ.nil = refl
total-same f (Permᴰ.cons e p) = rw (e, total-same f p)
total-same f (Permᴰ.swap e g) = rw (e, g) (omega arith)
total-same f (Permᴰ.trans p q) = total-same f p ∙ total-same f q

or-other : (a b c : Bool) → (a || (b || c)) ≡ (b || (a || c))
or-other true true c = refl
or-other true false c = refl
or-other false true c = refl
or-other false false c = refl

some_same : {A : Type 0} (f : A → Bool) {xs ys : List A} → Permᴰ xs ys → any_of f xs ≡ any_of f ys
unfolding any_of
some_same f Permᴰ.nil = refl
some_same f (Permᴰ.cons e p) = rw (e, some_same f p)
some_same f (Permᴰ.swap {a = a} {b = b} {l = l} e g) = rw (← e, ← g) (or-other (f a) (f b) (any_of f l))
some_same f (Permᴰ.trans p q) = some_same f p ∙ some_same f q

length-same : {A : Type 0} {xs ys : List A} → Permᴰ xs ys → length xs ≡ length ys
length-same Permᴰ.nil = refl
length-same (Permᴰ.cons e p) = ap suc (length-same p)
length-same (Permᴰ.swap e g) = refl
length-same (Permᴰ.trans p q) = length-same p ∙ length-same q

map_same : {A B : Type 0} (f : A → B) {xs ys : List A} → Permᴰ xs ys → Permᴰ (map f xs) (map f ys)
map_same f Permᴰ.nil = Permᴰ.nil
map_same f (Permᴰ.cons e p) = Permᴰ.cons (ap f e) (map_same f p)
map_same f (Permᴰ.swap e g) = Permᴰ.swap (ap f e) (ap f g)
map_same f (Permᴰ.trans p q) = Permᴰ.trans (map_same f p) (map_same f q)

any_same : (f g : ℕ → Bool) (n : ℕ) → ((i : ℕ) → f i ≡ g i) → any_below f n ≡ any_below g n
unfolding any_below
any_same f g zero e = refl
any_same f g (suc n) e = rw (any_same f g n e, e n)

module _ (k : ℕ) (s : Storey) (ms ns : List Member) (p : Permᴰ ms ns) where
  axial-same : axial_total_of ms ≡ axial_total_of ns
  unfolding axial_total_of
  axial-same = total-same member_axial p

  damaged-same : (kind : ℕ) → damaged kind ms ≡ damaged kind ns
  unfolding damaged
  damaged-same kind = total-same (λ m. flag (eqb m.damage kind)) p

  damage-same : risky_by_damage ms ≡ risky_by_damage ns
  unfolding risky_by_damage
  damage-same = rw (length-same p, damaged-same 1, damaged-same 2, damaged-same 3, damaged-same 4)

  module _ (c : ℕ) where
    walls-same : meets_wall_share c (shear_of c s) ms ≡ meets_wall_share c (shear_of c s) ns
    unfolding meets_wall_share
    walls-same = rw (total-same (λ m. wall_shear (in_case c m)) p)

    over-same : (met : Bool) → over_shear_of published_rules k met c ms ≡ over_shear_of published_rules k met c ns
    unfolding over_shear_of
    over-same met = total-same (shear_if_over published_rules k met c) p

    some-over-same : (met : Bool) → some_over published_rules k met c ms ≡ some_over published_rules k met c ns
    unfolding some_over
    some-over-same met = some_same (over published_rules k met c) p

    risky-same : case_risky published_rules k c (shear_of c s) ms ≡ case_risky published_rules k c (shear_of c s) ns
    unfolding case_risky
    risky-same =
        let met = meets_wall_share c (shear_of c s) ns in
        rw (walls-same, axial-same, length-same p, over-same met, some-over-same met, damage-same)

    finding-same : finding_in published_rules k s ms c ≡ finding_in published_rules k s ns c
    unfolding storey_finding
    finding-same =
        let met = meets_wall_share c (shear_of c s) ns in
        rw (walls-same, axial-same, length-same p, over-same met, some-over-same met, damage-same, risky-same)

    other-order : (form : ℕ) → OtherOrder form k s ms ns c
    unfolding case_lines
    other-order form =
        let kept = meets_wall_share c (shear_of c s) ns in
        record {
          met = kept;
          last = storey_line form c s.number (finding_in published_rules k s ns c);
          reordered = map_same (λ m. member_line form c m.number (finding k kept (in_case c m))) p;
          first-is = rw (finding-same, walls-same, lines-joined form k kept c ms);
          second_is = rw (lines-joined form k kept c ns);
        }

  storey-same : (form : ℕ) → storey_risky published_rules form k s ms ≡ storey_risky published_rules form k s ns
  unfolding storey_risky
  storey-same form =
      any_same (λ c. case_risky published_rules k c (shear_of c s) ms) (λ c. case_risky published_rules k c (shear_of c s) ns) (case_count form) risky-same

-- two sheets whose storeys' parts differ in the order of their `M` lines in a case alone, the rest being the same
pub data OtherOrders : List ℕ → List ℕ → Type 0 where
  same : {rest : List ℕ} → OtherOrders rest rest
  part : {form k : ℕ} {s : Storey} {ms ns : List Member} {c : ℕ} {rest later : List ℕ} → OtherOrder form k s ms ns c → OtherOrders rest later → OtherOrders (case_lines form k s ms c ++ rest) (case_lines form k s ns c ++ later)

-- n cases of a storey from case c on
cases_order : (form k : ℕ) (s : Storey) (ms ns : List Member) → Permᴰ ms ns → (c n : ℕ) (rest later : List ℕ) → OtherOrders rest later → OtherOrders (cases_lines form k s ms c n ++ rest) (cases_lines form k s ns c n ++ later)
unfolding cases_lines
cases_order form k s ms ns p c zero rest later o = o
cases_order form k s ms ns p c (suc n) rest later o =
    rw (append_assoc (case_lines form k s ms c), append_assoc (case_lines form k s ns c))
    (part (other-order k s ms ns p c form) (cases_order form k s ms ns p (suc c) n rest later o))

module _ (h : Header) (ss : List Storey) (ms ns : List Member) (p : (i : ℕ) → Permᴰ (members_of ss ms i) (members_of ss ns i)) where
  verdict-same : building_risky published_rules (survey_of h ss ms) ≡ building_risky published_rules (survey_of h ss ns)
  unfolding building_risky some_risky risky_at
  verdict-same =
      rw
      (any_same (λ i. storey_risky published_rules h.form h.knowledge (storey_in ss i) (members_of ss ms i)) (λ i. storey_risky published_rules h.form h.knowledge (storey_in ss i) (members_of ss ns i)) (length ss)
      (λ i. storey-same h.knowledge (storey_in ss i) (members_of ss ms i) (members_of ss ns i) (p i) h.form))

  storeys-order : (form k i n : ℕ) (last : List ℕ) → OtherOrders (storeys_lines form k ss ms i n ++ last) (storeys_lines form k ss ns i n ++ last)
  unfolding storeys_lines
  storeys-order form k i zero last = same
  storeys-order form k i (suc n) last =
      rw (append_assoc (storey_lines form k (storey_in ss i) (members_of ss ms i)), append_assoc (storey_lines form k (storey_in ss i) (members_of ss ns i)))
      (cases_order form k (storey_in ss i) (members_of ss ms i) (members_of ss ns i) (p i) 0 (case_count form) _ _ (storeys-order form k (suc i) n last))

  pub sheet-order : OtherOrders (sheet (survey_of h ss ms)) (sheet (survey_of h ss ns))
  unfolding sheet
  sheet-order = rw verdict-same (storeys-order h.form h.knowledge 0 (length ss) (building_line (tilted h) (building_risky published_rules (survey_of h ss ns))))
