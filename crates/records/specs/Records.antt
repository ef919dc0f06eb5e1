-- What makes a record good, and which refusal comes first (document 01, "The survey record", "Refusals as returned").
use Rattle.std.specs.Prelude.{◌+◌, ◌-◌, ◌&&◌, ◌||◌, ◌∷◌, ◌++◌}
use Rattle.records.specs.Notation.{ℕ, Bool, List, [], leb, ltb, eqb, length, get_or, pick, every_below, any_below}
use Rattle.records.specs.declared.{Header.Header, Storey.Storey, LoadCase.LoadCase, Member.Member, MemberCase.MemberCase, Kind.Kind, Kind.TheVariants.B, Kind.TheVariants.S, Kind.TheVariants.M, Kind.TheVariants.S4, Kind.TheVariants.M4, Kind.TheVariants.D}

-- a survey: "a header with its storeys and members as records"
pub record Survey : Type 0 where
  pub header : Header
  pub storeys : List Storey
  pub members : List Member

abbrev pub survey_of : Header → List Storey → List Member → Survey
survey_of h ss ms = record { header = h; storeys = ss; members = ms }

-- what a field may hold: the numbers from one to another, or one of two
pub data Allowed : Type 0 where
  between : ℕ → ℕ → Allowed
  either : ℕ → ℕ → Allowed

abbrev pub allows : Allowed → ℕ → Bool
allows (between a b) v = leb a v && leb v b
allows (either a b) v = eqb v a || eqb v b

-- nothing is allowed where a line has no field
abbrev pub never : Allowed
never = between 1 0

-- N_D and N_K are held as numbers counted from -20,000,000: each force has one number, the order is that of the forces, and a force handed in as it is
-- stands outside the range
abbrev pub zero_force : ℕ
zero_force = 20_000_000

-- "B": k, H_T, n_s, two tilts, number of S lines, which is at most n_s
abbrev pub header_ranges : ℕ → List Allowed
header_ranges ns = either 90 100 ∷ between 1 99_999 ∷ between 1 99 ∷ between 0 9_999_999 ∷ between 0 9_999_999 ∷ between 1 ns ∷ []

-- the forms of a survey, which the header tells (document 02, N3): 1, the old form, of one load case; 2, of four
abbrev pub in_cases : ℕ → Bool
in_cases form = eqb form 2

abbrev pub known_form : ℕ → Bool
known_form form = eqb form 1 || eqb form 2

-- how many load cases a form has
abbrev pub case_count : ℕ → ℕ
case_count form = pick (in_cases form) 4 1

-- the kinds of its S and M lines
abbrev pub storey_kind : ℕ → Kind
storey_kind form = pick (in_cases form) S4 S

abbrev pub member_kind : ℕ → Kind
member_kind form = pick (in_cases form) M4 M

-- a storey shear
abbrev pub shear_range : Allowed
shear_range = between 1 9_999_999

-- a storey or member number; the number of M lines
abbrev pub number_range : Allowed
number_range = between 1 9_999_999

abbrev pub count_range : Allowed
count_range = between 1 200

-- "S": storey number, storey shear, number of M lines
abbrev pub storey_ranges : List Allowed
storey_ranges = number_range ∷ shear_range ∷ count_range ∷ []

-- "The S line carries four storey shears, cases 1 to 4, before its count" (document 02, N3)
abbrev pub storey_cases_ranges : List Allowed
storey_cases_ranges = number_range ∷ shear_range ∷ shear_range ∷ shear_range ∷ shear_range ∷ count_range ∷ []

-- "M", fields 1 to 18: 1 number; 2 long side, 3 short side; 4 A_c; 5 f_cm, 6 f_ctm, 7 f_yw; 8 d; 9 H_w; 10 s; 11 b_k; 12 A_sh; 13 hooks, 14 boundary zone,
-- 15 strengthened; 16 factor; 17 damage kind; 18 N_D
abbrev pub member_ranges : List Allowed
member_ranges =
    number_range ∷ between 1 99_999 ∷ between 1 99_999 ∷ between 1 9_999_999 ∷ between 1 9_999 ∷ between 1 9_999 ∷ between 1 99_999
    ∷ between 1 99_999 ∷ between 1 99_999 ∷ between 1 9_999 ∷ between 1 99_999 ∷ between 0 99_999
    ∷ between 0 1 ∷ between 0 1 ∷ between 0 1 ∷ between 0 100 ∷ between 0 4
    ∷ between (zero_force - 999_999) (zero_force + 9_999_999) ∷ []

-- fields 19 to 26: 19 N_K; 20 M_e, 21 M_p; 22 V_e, 23 V_r; 24 V; 25 rotation; 26 drift
abbrev pub case_ranges : List Allowed
case_ranges =
    between (zero_force - 999_999) (zero_force + 9_999_999)
    ∷ between 0 9_999_999 ∷ between 1 9_999_999 ∷ between 0 9_999_999 ∷ between 1 9_999_999
    ∷ between 0 9_999_999 ∷ between 0 9_999_999 ∷ between 0 9_999_999 ∷ []

-- "The M line gains a last field, 'detailed to annex E', 0 or 1" (document 02, N6)
abbrev pub annex_e_range : Allowed
annex_e_range = between 0 1

-- the ranges of a line's fields; a B line's last depends on its n_s. "The M line keeps fields 1 to 18. Four D lines follow it, each with a case number 1 to 4 and
-- former fields 19 to 26" (document 02, N3)
abbrev pub ranges : Kind → ℕ → List Allowed
ranges B ns = header_ranges ns
ranges S ns = storey_ranges
ranges M ns = member_ranges ++ (case_ranges ++ (annex_e_range ∷ []))
ranges S4 ns = storey_cases_ranges
ranges M4 ns = member_ranges ++ (annex_e_range ∷ [])
ranges D ns = between 1 4 ∷ case_ranges

-- how many fields a line has
abbrev pub fields : Kind → ℕ
fields B = 6
fields S = 3
fields M = 27
fields S4 = 6
fields M4 = 19
fields D = 9

-- the last field of a line, counted from 0
abbrev pub last_field : Kind → ℕ
last_field kind = fields kind - 1

-- field j of a line, counted from 0, of which vs are the numbers: it is in its range
abbrev pub in_range : Kind → List ℕ → ℕ → Bool
in_range kind vs j = allows (get_or (ranges kind (get_or vs 2 0)) j never) (get_or vs j 0)

-- every field of a line is in its range
abbrev pub line_in_range : Kind → List ℕ → Bool
line_in_range kind vs = every_below (in_range kind vs) (fields kind)

-- "cases that the old form lacks hold 0" (document 02, N3): N_K holds the force 0
abbrev pub no_case : LoadCase
no_case = record { nk = zero_force; me = 0; mp = 0; ve = 0; vr = 0; shear = 0; rotation = 0; drift = 0 }

-- what stands in case c, counted from 0: of a storey and of a member
abbrev pub shear_of : ℕ → Storey → ℕ
shear_of c s = get_or s.shears c 0

abbrev pub case_of : ℕ → Member → LoadCase
case_of c m = get_or m.cases c no_case

-- the numbers of a record, in the order of its line
abbrev pub header_values : Header → List ℕ
header_values h = h.knowledge ∷ h.height ∷ h.storeys ∷ h.tilt1 ∷ h.tilt2 ∷ h.count ∷ []

abbrev pub storey_values : ℕ → Storey → List ℕ
storey_values form s =
    pick (in_cases form) (s.number ∷ shear_of 0 s ∷ shear_of 1 s ∷ shear_of 2 s ∷ shear_of 3 s ∷ s.count ∷ []) (s.number ∷ shear_of 0 s ∷ s.count ∷ [])

abbrev pub member_values : Member → List ℕ
member_values m =
    m.number ∷ m.long ∷ m.short ∷ m.area ∷ m.fcm ∷ m.fctm ∷ m.fyw ∷ m.depth ∷ m.height ∷ m.spacing ∷ m.core ∷ m.hoops
    ∷ m.hooks ∷ m.zone ∷ m.strengthened ∷ m.factor ∷ m.damage ∷ m.nd ∷ m.annex_e ∷ []

abbrev pub case_values : LoadCase → List ℕ
case_values k = k.nk ∷ k.me ∷ k.mp ∷ k.ve ∷ k.vr ∷ k.shear ∷ k.rotation ∷ k.drift ∷ []

-- the record of some numbers in the order of its line's fields
abbrev pub header_by : ℕ → (ℕ → ℕ) → Header
header_by form f = record { knowledge = f 0; height = f 1; storeys = f 2; tilt1 = f 3; tilt2 = f 4; count = f 5; form = form }

abbrev pub storey_by : ℕ → (ℕ → ℕ) → Storey
storey_by form f =
    record {
      number = f 0;
      shears = pick (in_cases form) (f 1 ∷ f 2 ∷ f 3 ∷ f 4 ∷ []) (f 1 ∷ 0 ∷ 0 ∷ 0 ∷ []);
      count = f (pick (in_cases form) 5 2);
    }

-- a load case, from field j on
abbrev pub case_by : (ℕ → ℕ) → ℕ → LoadCase
case_by f j =
    record {
      nk = f j;
      me = f (j + 1);
      mp = f (j + 2);
      ve = f (j + 3);
      vr = f (j + 4);
      shear = f (j + 5);
      rotation = f (j + 6);
      drift = f (j + 7);
    }

-- the cases of an M line of the old form
abbrev pub old_cases : (ℕ → ℕ) → List LoadCase
old_cases f = case_by f 18 ∷ no_case ∷ no_case ∷ no_case ∷ []

-- a member of the first 18 fields of its M line, the last one and its cases
abbrev pub member_by : (ℕ → ℕ) → ℕ → List LoadCase → Member
member_by f annex_e cases =
    record {
      number = f 0;
      long = f 1;
      short = f 2;
      area = f 3;
      fcm = f 4;
      fctm = f 5;
      fyw = f 6;
      depth = f 7;
      height = f 8;
      spacing = f 9;
      core = f 10;
      hoops = f 11;
      hooks = f 12;
      zone = f 13;
      strengthened = f 14;
      factor = f 15;
      damage = f 16;
      nd = f 17;
      annex_e = annex_e;
      cases = cases;
    }

-- the member of an M line of the old form
abbrev pub old_member : (ℕ → ℕ) → Member
old_member f = member_by f (f (last_field M)) (old_cases f)

-- a member with one load case: what is judged
abbrev pub with_case : Member → LoadCase → MemberCase
with_case m k =
    record {
      number = m.number;
      long = m.long;
      short = m.short;
      area = m.area;
      fcm = m.fcm;
      fctm = m.fctm;
      fyw = m.fyw;
      depth = m.depth;
      height = m.height;
      spacing = m.spacing;
      core = m.core;
      hoops = m.hoops;
      hooks = m.hooks;
      zone = m.zone;
      strengthened = m.strengthened;
      factor = m.factor;
      damage = m.damage;
      nd = m.nd;
      annex_e = m.annex_e;
      case = k;
    }

-- a member in case c, counted from 0
abbrev pub in_case : ℕ → Member → MemberCase
in_case c m = with_case m (case_of c m)

-- its 27 numbers, in the order of an M line of the old form
abbrev pub member_case_values : MemberCase → List ℕ
member_case_values m =
    m.number ∷ m.long ∷ m.short ∷ m.area ∷ m.fcm ∷ m.fctm ∷ m.fyw ∷ m.depth ∷ m.height ∷ m.spacing ∷ m.core ∷ m.hoops
    ∷ m.hooks ∷ m.zone ∷ m.strengthened ∷ m.factor ∷ m.damage ∷ m.nd ∷ (case_values m.case ++ (m.annex_e ∷ []))

-- the first refusal of a record by itself, 0 where there is none.
-- A header: 3, a field outside its range, or a form that is not known; 7, H_T > 30,000 or n_s > 10
unfoldable pub header_fault : Header → ℕ
header_fault h =
    pick (line_in_range B (header_values h) && known_form h.form) (pick (leb h.height 30_000 && leb h.storeys 10) 0 7) 3

-- a storey of a form: 3; "cases that the old form lacks hold 0, else 3" (document 02, N3)
abbrev pub shears_fit : ℕ → Storey → Bool
shears_fit form s = eqb (length s.shears) 4 && (in_cases form || (eqb (shear_of 1 s) 0 && (eqb (shear_of 2 s) 0 && eqb (shear_of 3 s) 0)))

unfoldable pub storey_fault : ℕ → Storey → ℕ
storey_fault form s = pick (line_in_range (storey_kind form) (storey_values form s) && shears_fit form s) 0 3

-- 4, short side above long side
abbrev pub sides_fault : ℕ → ℕ → ℕ
sides_fault short long = pick (leb short long) 0 4

-- a member in one load case: 3; 4
unfoldable pub member_case_fault : MemberCase → ℕ
member_case_fault m = pick (line_in_range M (member_case_values m)) (sides_fault m.short m.long) 3

-- the numbers of a load case are those of a case that the form lacks
unfoldable pub is_blank : LoadCase → Bool
is_blank k = every_below (λ j. eqb (get_or (case_values k) j 0) (get_or (case_values no_case) j 0)) 8

-- case c of a member of a form: its fields are in their ranges, or it is one that the form lacks
abbrev pub case_fits : ℕ → Member → ℕ → Bool
case_fits form m c = pick (ltb c (case_count form)) (line_in_range M (member_case_values (in_case c m))) (is_blank (case_of c m))

-- a member of a form: 3, in any case; 4
unfoldable pub member_fault : ℕ → Member → ℕ
member_fault form m = pick (eqb (length m.cases) 4 && every_below (case_fits form m) 4) (sides_fault m.short m.long) 3

-- 5, a number repeated: that of record k is one of those before it
abbrev pub repeated : (ℕ → ℕ) → ℕ → ℕ
repeated number k = pick (any_below (λ e. eqb (number e) (number k)) k) 5 0
