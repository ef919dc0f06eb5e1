-- Laws of what a writer's methods promise: whether a text has room, one text after another, and an empty text.
use Prim.Native.Nat.{ℕ, ◌+◌, ◌-◌, ◌*◌, ◌≤◌, ◌<◌}
use native.Mathlib.Omega.{arith}
use mathlib.Core.Bool.{false}
use mathlib.Core.List.{List, [], ◌∷◌, ◌++◌}
use mathlib.Core.Path.{◌≡◌, refl, ap, sym, ◌∙◌}
use lib.Dec.{leb}
use lib.ListN.{length, take, drop, get_or, length-append, length-drop, drop_of_length-le}
use borrow.Rule.Slice.Mut.{set_vals}
use borrow.Rule.Slice.PartMut.{put_mid}
use Rattle.std.proofs.lemmas.List.{length-take-le, drop_more}
use Rattle.format.specs.Spelling.{spelled}
use Rattle.columns.specs.Line.{printed_numbers, line}
use Rattle.columns.specs.Bytes.{stamped, KeptOutside}
use Rattle.columns.specs.Writer.{HasRoom, Written, WrittenIfRoom}
use Rattle.columns.specs.declared.writer.ColumnWriter.{ColumnWriter}
use Rattle.columns.proofs.Stamps.{kept-length, length-stamped, stamped-part, length-printed-numbers, stamped-none, stamped-both, put-fits, place-fits, before_text, after_text}

-- as many bytes are lent after a text as before
pub same_room : (text : List ℕ) (before after : ColumnWriter) → Written text before after → length after.bytes.now ≡ length before.bytes.now
same_room text before after w = kept-length after.bytes.now before.bytes.now before.at text w.bytes

-- one text after another
pub both-written : (xs ys : List ℕ) (a b c : ColumnWriter) → Written xs a b → Written ys b c → Written (xs ++ ys) a c
both-written xs ys a b c p q = record {
  same_bytes = q.same_bytes ∙ p.same_bytes;
  bytes = q.bytes ∙ ap (λ (bytes : List ℕ). stamped bytes b.at ys) p.bytes ∙ stamped-both xs ys a.bytes.now a.at b.at p.at;
  at = omega (arith, p.at, q.at, length-append xs ys);
}

module _ (text : List ℕ) (before after : ColumnWriter) where
  -- a text that has room
  pub has-room : HasRoom (length text) before → WrittenIfRoom text before after → Written text before after
  has-room h w = record {
    same_bytes = w.same_bytes;
    bytes = w.bytes ∙ put-fits text before.bytes.now before.at h;
    at = w.at ∙ place-fits text before.bytes.now before.at h;
  }

  pub written-if-room : HasRoom (length text) before → Written text before after → WrittenIfRoom text before after
  written-if-room h w = record {
    same_bytes = w.same_bytes;
    bytes = w.bytes ∙ sym (put-fits text before.bytes.now before.at h);
    at = w.at ∙ sym (place-fits text before.bytes.now before.at h);
  }

  pub no-room : leb (before.at + length text) (length before.bytes.now) ≡ false → WrittenIfRoom text before before
  no-room e = record { same_bytes = refl; bytes = rw e; at = rw e }

  -- the bytes outside its columns stay
  pub kept-outside : (width : ℕ) → length text ≡ width → Written text before after → KeptOutside before.at width before.bytes.now after.bytes.now
  kept-outside width e w = record {
    left = ap (take before.at) w.bytes ∙ before_text text before.bytes.now before.at before.at (omega arith);
    right = ap (drop (before.at + width)) w.bytes ∙ after_text text before.bytes.now (before.at + width) before.at (omega (arith, e));
  }

-- a text put into so many bytes from the place on
pub part-written : (text part : List ℕ) (w : ColumnWriter) (n : ℕ) → part ≡ text → length text ≡ n → HasRoom n w → Written text w (record { bytes = set_vals (put_mid w.at (w.at + n - w.at) w.bytes.now part) w.bytes; at = w.at + n })
part-written text part w n e l h =
    let k : w.at + n - w.at ≡ n = omega arith in record {
      same_bytes = refl;
      bytes = rw k (stamped-part text part w.bytes.now w.at n e l h);
      at = rw l;
    }

-- how long such a part is
pub length-part : (w : ColumnWriter) (n : ℕ) → HasRoom n w → length (take (w.at + n - w.at) (drop w.at w.bytes.now)) ≡ n
length-part w n h = length-take-le (w.at + n - w.at) (drop w.at w.bytes.now) (omega (arith, length-drop w.at w.bytes.now)) ∙ omega arith

-- ---- a text put part by part

-- of a whole text some is put, and the rest is left: with the rest put the whole is put
pub record Remaining (rest whole : List ℕ) (before now : ColumnWriter) : Type 0 where
  pub same_bytes : now.bytes.ghost_name ≡ before.bytes.ghost_name
  pub bytes : stamped now.bytes.now now.at rest ≡ stamped before.bytes.now before.at whole
  pub at : now.at + length rest ≡ before.at + length whole

pub all-left : (text : List ℕ) (w : ColumnWriter) → Remaining text text w w
all-left text w = record { same_bytes = refl; bytes = refl; at = refl }

pub part-put : (part rest whole : List ℕ) (a b c : ColumnWriter) → Remaining (part ++ rest) whole a b → Written part b c → Remaining rest whole a c
part-put part rest whole a b c r w = record {
  same_bytes = w.same_bytes ∙ r.same_bytes;
  bytes = rw w.bytes (stamped-both part rest b.bytes.now b.at c.at w.at ∙ r.bytes);
  at = omega (arith, w.at, r.at, length-append part rest);
}

pub none-left : (whole : List ℕ) (a b : ColumnWriter) → Remaining [] whole a b → Written whole a b
none-left whole a b r = record { same_bytes = r.same_bytes; bytes = sym (stamped-none b.bytes.now b.at) ∙ r.bytes; at = omega (arith, r.at) }

-- what is left fits where the whole does
pub rest-fits : (rest whole : List ℕ) (a b : ColumnWriter) → HasRoom (length whole) a → Remaining rest whole a b → HasRoom (length rest) b
rest-fits rest whole a b h r =
    let e : length b.bytes.now ≡ length a.bytes.now = sym (length-stamped rest b.bytes.now b.at) ∙ ap length r.bytes ∙ length-stamped whole a.bytes.now a.at in
    omega (arith, r.at)

pub part-fits : (part rest : List ℕ) (w : ColumnWriter) → HasRoom (length (part ++ rest)) w → HasRoom (length part) w
part-fits part rest w h = omega (arith, length-append part rest)

pub first-fits : (part rest whole : List ℕ) (a b : ColumnWriter) → HasRoom (length whole) a → Remaining (part ++ rest) whole a b → HasRoom (length part) b
first-fits part rest whole a b h r = part-fits part rest b (rest-fits (part ++ rest) whole a b h r)

-- what follows a text fits where both do
pub after-fits : (part rest : List ℕ) (a b : ColumnWriter) → HasRoom (length (part ++ rest)) a → Written part a b → HasRoom (length rest) b
after-fits part rest a b h w = omega (arith, w.at, same_room part a b w, length-append part rest)

-- numbers one by one
pub numbers-left : (ns : List ℕ) (i : ℕ) → i < length ns → printed_numbers (drop i ns) ≡ spelled 12 32 (get_or ns i 0) ++ printed_numbers (drop (i + 1) ns)
unfolding printed_numbers
numbers-left ns i h = rw (drop_more ns i 0 h)

pub numbers-end : (ns : List ℕ) (i : ℕ) → length ns ≤ i → printed_numbers (drop i ns) ≡ []
unfolding printed_numbers
numbers-end ns i h = rw (drop_of_length-le ns h)

-- tag, fields and LF are a line
pub line-written : (tag ns : List ℕ) (a b c d : ColumnWriter) → HasRoom (length tag + (12 * length ns + 1)) a → WrittenIfRoom tag a b → Written (printed_numbers ns) b c → WrittenIfRoom (10 ∷ []) c d → Written (line tag ns) a d
unfolding line
line-written tag ns a b c d room p q r =
    let t = has-room tag a b (omega arith) p in
    let k : HasRoom 1 c = omega (arith, t.at, q.at, same_room _ a b t, same_room _ b c q, length-printed-numbers ns) in
    both-written tag _ a b d t (both-written _ _ b c d q (has-room _ c d k r))
