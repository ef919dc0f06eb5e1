-- What one more read or write moves, by what it returned.
use Rattle.std.proofs.Common.{◌≡◌, ℕ, zero, suc, ◌+◌, ◌≤◌, List, ◌++◌, length, take, drop, slice_range, sym, ap, ◌∙◌, subst, le_refl, drop_at, length-take-le}
use Rattle.std.proofs.lemmas.List.{take_rest}
use Rattle.std.proofs.lemmas.Slice.{take-put_mid_below}
use Rattle.std.specs.Prelude.{Option, Some, Result, Ok, Err}
use Rattle.std.specs.Io.{ReadsAtMost, WritesAtMost}
use Rattle.std.specs.Io.KnownBytes.{Appends, Consumes, ReadConsumes, WriteAppends}
use Rattle.std.proofs.KnownBytes.{Appends-trans, Consumes-trans}
use Rattle.std.specs.declared.io.Error.{Error}
use borrow.Rule.Slice.PartMut.{put_mid, post_of}
use lib.Seq.{take-add, take-append-le}
use Rattle.determine.specs.Transfer.{moved_of, Moving}

-- a call that moved bytes returned how many
returned : (r : Result ℕ Error) (n : ℕ) → moved_of r ≡ Ok (Some n) → r ≡ Ok n
returned (Ok zero) n e = cc
returned (Ok (suc k)) n e = cc
returned (Err x) n e = cc

-- and that is what it told last
pub moving : (r last : Result ℕ Error) (n : ℕ) → moved_of r ≡ Ok (Some n) → r ≡ last → Moving (moved_of last)
moving r last n e q = subst (λ (x : Result ℕ Error). Moving (moved_of x)) q (subst Moving (sym e) tt)

-- the bytes written before and those of one more write
pub written_more : (r : Result ℕ Error) (n done : ℕ) (a b c : Option (List ℕ)) (bytes : List ℕ) → moved_of r ≡ Ok (Some n) → WritesAtMost r (slice_range bytes done (length bytes)) → Appends a b (take done bytes) → WriteAppends b c r (slice_range bytes done (length bytes)) → Appends a c (take (done + n) bytes)
written_more r n done a b c bytes e l w m =
    let part = slice_range bytes done (length bytes) in
    let more : Appends b c (take n part) = subst (λ (x : Result ℕ Error). WriteAppends b c x part) (returned r n e) m in
    subst (Appends a c)
    (ap (λ (rest : List ℕ). take done bytes ++ take n rest) (take_rest bytes done) ∙ sym (take-add done n bytes))
    (Appends-trans a b c _ _ w more)

-- the bytes of a read in their place of the buffer
front : (done room n : ℕ) (buffer part : List ℕ) → done ≤ length buffer → n ≤ length part → take done buffer ++ take n part ≡ take (done + n) (put_mid done room buffer part)
front done room n buffer part h l =
    let whole = put_mid done room buffer part in
    let kept : take done whole ≡ take done buffer = take-put_mid_below _ _ _ _ _ (le_refl _) h in
    let came : take n (drop done whole) ≡ take n part =
    ap (take n) (drop_at (take done buffer) (part ++ post_of done room buffer) done (length-take-le done buffer h)) ∙ take-append-le n part (post_of done room buffer) l in
    ap (λ (xs : List ℕ). take done buffer ++ xs) (sym came) ∙ ap (λ (xs : List ℕ). xs ++ take n (drop done whole)) (sym kept) ∙ sym (take-add done n whole)

-- the bytes read before and those of one more read
pub read_more : (r : Result ℕ Error) (n done room : ℕ) (a b c : Option (List ℕ)) (buffer part : List ℕ) → moved_of r ≡ Ok (Some n) → ReadsAtMost r part → done ≤ length buffer → Consumes a b (take done buffer) → ReadConsumes b c r part → Consumes a c (take (done + n) (put_mid done room buffer part))
read_more r n done room a b c buffer part e l h w m =
    let o = returned r n e in
    let within : n ≤ length part = (subst (λ (x : Result ℕ Error). ReadsAtMost x part) o l).0 in
    let more : Consumes b c (take n part) = (subst (λ (x : Result ℕ Error). ReadConsumes b c x part) o m).0 in
    subst (Consumes a c) (front done room n buffer part h within) (Consumes-trans a b c _ _ w more)
