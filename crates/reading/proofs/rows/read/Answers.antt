use mathlib.Core.Path.{refl, sym, ◌∙◌}
use lib.Seq.{length-take-le}
use Rattle.records.specs.Forms.{form_number}
use Rattle.records.specs.Blank.{no_member}
use Rattle.reading.proofs.Accepted.{told-is, lies, storeys-are, members-are}
use Rattle.reading.proofs.rows.read.Goals as goal

pub slice_bounds-fill-end : goal.slice_bounds-fill-end
slice_bounds-fill-end c =
    let f = c.new-file.result in
    let a = c.in_ok-filled.filled in
    let q = told-is f.bytes.now _ _ (form_number f.form) a.storeys a.header a.members f.formed c.in_ok-filled.ensures in
    (lies f.bytes.now _ _ _ _ q).1

pub slice_bounds-fill-end-2 : goal.slice_bounds-fill-end-2
slice_bounds-fill-end-2 c =
    let f = c.new-file.result in
    let a = c.in_ok-filled.filled in
    let q = told-is f.bytes.now _ _ (form_number f.form) a.storeys a.header a.members f.formed c.in_ok-filled.ensures in
    sym (length-take-le a.storeys c.args.storeys.now (lies f.bytes.now _ _ _ _ q).1)

pub fill-requires : goal.fill-requires
fill-requires c =
    let f = c.new-file.result in
    let a = c.in_ok-filled.filled in
    let q = told-is f.bytes.now _ _ (form_number f.form) a.storeys a.header a.members f.formed c.in_ok-filled.ensures in
    let t = lies f.bytes.now _ _ _ _ q in
    rw (length-take-le a.storeys c.args.storeys.now t.1) (record { fits = t.0; members = t.2 })

pub returns-clause-storeys_after : goal.returns-clause-storeys_after
returns-clause-storeys_after c =
    let f = c.new-file.result in
    let a = c.in_ok-filled.filled in
    let q = told-is f.bytes.now _ _ (form_number f.form) a.storeys a.header a.members f.formed c.in_ok-filled.ensures in
    let n = length-take-le a.storeys c.args.storeys.now (lies f.bytes.now _ _ _ _ q).1 in
    rw (← c.new-file.ensures, c.fill.ensures.storeys, n) (storeys-are f.bytes.now _ _ _ _ c.args.storeys.now q)

pub returns-clause-members_after : goal.returns-clause-members_after
returns-clause-members_after c =
    let f = c.new-file.result in
    let a = c.in_ok-filled.filled in
    let q = told-is f.bytes.now _ _ (form_number f.form) a.storeys a.header a.members f.formed c.in_ok-filled.ensures in
    let n = length-take-le a.storeys c.args.storeys.now (lies f.bytes.now _ _ _ _ q).1 in
    rw (← c.new-file.ensures) (rw n at c.fill.ensures.members ∙ members-are f.bytes.now _ _ _ _ no_member c.args.members.now q refl)
