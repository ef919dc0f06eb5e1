-- The bounds of a good member in its load case, as facts (document 01, "The survey record"). `valid` of proofs/ derives them from the member's check.
use Rattle.std.specs.Prelude.{◌≤◌}
use Rattle.records.specs.declared.MemberCase.{MemberCase}

pub record Valid (m : MemberCase) : Type 0 where
  pub number : m.number ≤ 9_999_999
  pub long : m.long ≤ 99_999
  pub long-least : 1 ≤ m.long
  pub short : m.short ≤ 99_999
  pub short-least : 1 ≤ m.short
  pub area : m.area ≤ 9_999_999
  pub area-least : 1 ≤ m.area
  pub fcm : m.fcm ≤ 9_999
  pub fcm-least : 1 ≤ m.fcm
  pub fctm : m.fctm ≤ 9_999
  pub fctm-least : 1 ≤ m.fctm
  pub fyw : m.fyw ≤ 99_999
  pub fyw-least : 1 ≤ m.fyw
  pub depth : m.depth ≤ 99_999
  pub depth-least : 1 ≤ m.depth
  pub height : m.height ≤ 99_999
  pub spacing : m.spacing ≤ 9_999
  pub spacing-least : 1 ≤ m.spacing
  pub core : m.core ≤ 99_999
  pub core-least : 1 ≤ m.core
  pub hoops : m.hoops ≤ 99_999
  pub hooks : m.hooks ≤ 1
  pub zone : m.zone ≤ 1
  pub strengthened : m.strengthened ≤ 1
  pub factor : m.factor ≤ 100
  pub damage : m.damage ≤ 4
  pub nd : m.nd ≤ 29_999_999
  pub annex-e : m.annex_e ≤ 1
  pub nk : m.case.nk ≤ 29_999_999
  pub me : m.case.me ≤ 9_999_999
  pub mp : m.case.mp ≤ 9_999_999
  pub mp-least : 1 ≤ m.case.mp
  pub ve : m.case.ve ≤ 9_999_999
  pub vr : m.case.vr ≤ 9_999_999
  pub vr-least : 1 ≤ m.case.vr
  pub shear : m.case.shear ≤ 9_999_999
  pub rotation : m.case.rotation ≤ 9_999_999
  pub drift : m.case.drift ≤ 9_999_999
  pub sides : m.short ≤ m.long
