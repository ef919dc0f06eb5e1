use native.Mathlib.Omega.{arith}
use mathlib.Core.Path.{◌≡◌, ◌∙◌}
use Rattle.records.specs.Forms.{form_number}
use Rattle.reading.proofs.Filling.{before-none, storey-small, storey-is, before-next, members-small, members-held, members-sound, filled_none, filled_next}
use Rattle.records.specs.Blank.{no_storey, no_member}
use Rattle.std.proofs.Common.{rules, length}
use Rattle.reading.proofs.Placed.{placed-none, placed-step, placed-all, placed-part, part-length}
use Rattle.reading.proofs.survey.File.fill.Goals as goal

pub loop-i-init : goal.loop-i-init
loop-i-init c = (before-none _ _, placed-none _ _ _, filled_none _ _ _)

pub invariant_of-place : goal.invariant_of-place
invariant_of-place c =
    let s = c.args.self.now in
    let l = c.loop-i in
    let k = storey-small (form_number s.form) s.bytes.now _ c.requires.fits l.i l.m (omega arith) l.invariant.0 in
    record { few_storeys = omega arith; few_members = omega arith }

pub slice_bounds-fill_members-end : goal.slice_bounds-fill_members-end
slice_bounds-fill_members-end c =
    let s = c.args.self.now in
    let l = c.loop-i in
    let h = members-held (form_number s.form) s.bytes.now _ c.requires.fits l.i l.m (omega arith) l.invariant.0 _ _ c.storey_at-storey.ensures c.member_count.ensures _ c.requires.members in
    search rules

pub fill_members-requires : goal.fill_members-requires
fill_members-requires c =
    let s = c.args.self.now in
    let l = c.loop-i in
    let g = c.storey_at-storey.ensures in
    let k = storey-small (form_number s.form) s.bytes.now _ c.requires.fits l.i l.m (omega arith) l.invariant.0 in
    let h = members-held (form_number s.form) s.bytes.now _ c.requires.fits l.i l.m (omega arith) l.invariant.0 _ _ g c.member_count.ensures (length l.members) (omega arith) in
    let e = part-length l.m c.member_count.result l.members h in
    rw e (record {
      small = (omega arith, members-small (form_number s.form) s.bytes.now _ c.requires.fits l.i l.m (omega arith) l.invariant.0 _ _ g c.member_count.ensures);
      sound = members-sound (form_number s.form) s.bytes.now _ c.requires.fits l.i l.m (omega arith) l.invariant.0 _ _ g c.member_count.ensures;
    })

pub loop-i-preserved : goal.loop-i-preserved
loop-i-preserved c =
    let s = c.args.self.now in
    let l = c.loop-i in
    let g = c.storey_at-storey.ensures in
    let h = members-held (form_number s.form) s.bytes.now _ c.requires.fits l.i l.m (omega arith) l.invariant.0 _ _ g c.member_count.ensures (length l.members) (omega arith) in (
      before-next (form_number s.form) s.bytes.now _ c.requires.fits l.i l.m (omega arith) l.invariant.0 _ _ g c.member_count.ensures,
      placed-step _ _ _ l.i _ _ _ l.invariant.1 (storey-is (form_number s.form) s.bytes.now _ c.requires.fits l.i l.m (omega arith) l.invariant.0 _ _ g c.member_count.ensures) (omega arith),
      filled_next (form_number s.form) s.bytes.now _ c.requires.fits l.i l.m (omega arith) l.invariant.0 _ _ g c.member_count.ensures _ _ _ l.invariant.2
          (placed-part _ no_member l.m c.member_count.result l.members c.fill_members.new.rows h c.fill_members.ensures),
    )

pub returns-clause-storeys : goal.returns-clause-storeys
returns-clause-storeys c = let e : c.loop-i.i ≡ length c.args.storeys.now = omega arith in rw (← e) (c.loop-i.invariant.1 ∙ placed-all _ no_storey c.loop-i.i c.args.storeys.now e)
