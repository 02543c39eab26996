-- The bytes read of an input.
use Rattle.std.proofs.Common.{◌≡◌, ℕ, zero, suc, ◌+◌, ◌≤◌, zero-add, List, [], ◌∷◌, ◌++◌, map, take, length, Bool, true, false, cond, Option, Some, None, IfSome, refl, sym, ap, subst, ◌∙◌, arith, append_assoc, append-nil, length-append, one-add}
use Rattle.std.specs.List.{onto_first, count_by}
use Rattle.std.proofs.lemmas.List.Sums.{sum_by-cons}
use Rattle.std.proofs.lemmas.List.{map-append}
use Rattle.std.specs.Io.KnownBytes.{Consumes, IsAtEnd}
use Rattle.line_io.specs.Lines.{Piece, SourceGave, parts_by_feed, is_feed, items, piece_of}
use Rattle.line_io.specs.Runs.{closed_parts, whole}
use Rattle.line_io.specs.Source.{Received, Supplied}
use Rattle.line_io.specs.Taken.{Place, Taken, IsOver}
use Rattle.line_io.specs.LineConsumers.{ConsumerMeaning}
use Rattle.line_io.specs.declared.consumer.LinesEnd.TheVariants as ends
use Rattle.replay_command_base.specs.Reads.{AreFirst, AreRead, Got, IsAll}
use Rattle.replay_command_base.specs.Streams.{FilterStreams, filter_streams}

-- THE WHOLE LINES ARE THE FIRST

record Begins (n : ℕ) (ps qs : List (List ℕ)) : Type 0 where
  rest : List (List ℕ)
  same : qs ≡ take n ps ++ rest
  fits : n ≤ length ps

onto : (x n : ℕ) (ps qs : List (List ℕ)) → Begins n ps qs → Begins n (onto_first x ps) (onto_first x qs)
onto x zero [] qs c = record { rest = onto_first x qs; same = refl; fits = omega arith }
onto x zero (p ∷ ps) qs c = record { rest = onto_first x qs; same = refl; fits = omega arith }
onto x (suc n) [] qs c = absurd (let l = c.fits in omega arith)
onto x (suc n) (p ∷ ps) qs c = record { rest = c.rest; same = ap (onto_first x) c.same; fits = c.fits }

next_begins : (x n : ℕ) (ps qs : List (List ℕ)) (feed : Bool) → Begins n ps qs → Begins (cond feed 1 0 + n) (cond feed ([] ∷ ps) (onto_first x ps)) (cond feed ([] ∷ qs) (onto_first x qs))
next_begins x n ps qs true c = rw one-add (record { rest = c.rest; same = ap (λ l. [] ∷ l) c.same; fits = let l = c.fits in omega arith })
next_begins x n ps qs false c = rw zero-add (onto x n ps qs c)

parts_begin : (bytes more : List ℕ) → Begins (count_by is_feed bytes) (parts_by_feed bytes) (parts_by_feed (bytes ++ more))
parts_begin [] more = record { rest = parts_by_feed more; same = refl; fits = omega arith }
parts_begin (x ∷ xs) more =
    rw (sum_by-cons (λ b. cond (is_feed b) 1 0) x xs) (next_begins x (count_by is_feed xs) (parts_by_feed xs) (parts_by_feed (xs ++ more)) (is_feed x) (parts_begin xs more))

pub whole_first : (bytes more : List ℕ) → (ls : List Piece) × (items 131072 (bytes ++ more) ≡ whole 131072 bytes ++ ls)
whole_first bytes more =
    let b = parts_begin bytes more in
    (map (piece_of 131072) b.rest, ap (map (piece_of 131072)) b.same ∙ map-append (piece_of 131072) (closed_parts bytes) b.rest)

-- LINES THAT WERE READ

pub first_lines : (l0 l : Option (List ℕ)) (got : List ℕ) (lines : List Piece) → Consumes l0 l got → ((left : List ℕ) → l ≡ Some left → (ls : List Piece) × (items 131072 (got ++ left) ≡ lines ++ ls)) → AreFirst l0 lines
first_lines None l got lines c f = tt
first_lines (Some x) None got lines c f = absurd c
first_lines (Some x) (Some y) got lines c f = let m = f y refl in (m.0, ap (items 131072) c ∙ m.1)

prefix_first : (l0 : Option (List ℕ)) (pieces lines more : List Piece) → pieces ≡ lines ++ more → AreFirst l0 pieces → AreFirst l0 lines
prefix_first None pieces lines more e a = tt
prefix_first (Some x) pieces lines more e a = (more ++ a.0, a.1 ∙ ap (λ (ls : List Piece). ls ++ a.0) e ∙ append_assoc lines more a.0)

pub read_prefix : (start now : FilterStreams) (pieces lines more : List Piece) → pieces ≡ lines ++ more → AreRead start now pieces → AreRead start now lines
read_prefix start now pieces lines more e r = record {
  got = r.got;
  reads = r.reads;
  of_got = (more ++ r.of_got.0, r.of_got.1 ∙ ap (λ (ls : List Piece). ls ++ r.of_got.0) e ∙ append_assoc lines more r.of_got.0);
  of_left = prefix_first start.input.left pieces lines more e r.of_left;
}

-- of the same bytes
pub prefix_got : (start now : FilterStreams) (pieces lines more : List Piece) (e : pieces ≡ lines ++ more) (r : AreRead start now pieces) → (read_prefix start now pieces lines more e r).got ≡ r.got
unfolding read_prefix
prefix_got start now pieces lines more e r = refl

pub no_bytes : (got : List ℕ) (lines ls : List Piece) → items 131072 (got ++ []) ≡ lines ++ ls → items 131072 got ≡ lines ++ ls
no_bytes got lines ls e = ap (items 131072) (sym (append-nil got)) ∙ e

-- BYTES THAT WERE READ

pub all_got : (l0 l : Option (List ℕ)) (got : List ℕ) → Consumes l0 l got → IsAtEnd l → IsAll l0 got
all_got None l got c a = tt
all_got (Some x) None got c a = absurd c
all_got (Some x) (Some y) got c a = c ∙ ap (λ l. got ++ l) a ∙ append-nil got

pub few_got : (l0 l : Option (List ℕ)) (got x : List ℕ) → Consumes l0 l got → l0 ≡ Some x → length got ≤ length x
few_got None l got x c e = cc
few_got (Some y) None got x c e = absurd c
few_got (Some y) (Some z) got x c e = let same : y ≡ x = cc in let whole = ap length c in let same' = ap length same in omega (arith, length-append got z)

-- WHAT A TAKING OF LINES READ

all_over : (l0 l : Option (List ℕ)) (i0 i : Supplied) (got : List ℕ) → i0.left ≡ l0 → i.left ≡ l → Consumes l0 l got → IsOver i0 i → IsAll l0 got
all_over None l i0 i got e f c a = tt
all_over (Some x) l i0 i got e f c a = all_got (Some x) l got c (subst (λ (y : Option (List ℕ)). IsAtEnd y) f (subst (λ (y : Option (List ℕ)). IfSome y (λ _. IsAtEnd i.left)) e a))

module _ {S O X : Type 0} (means : ConsumerMeaning S O X) (old new : Place S O) (output output_now diag diag_now : Received) where
  abbrev start : FilterStreams
  start = filter_streams old.input output diag

  abbrev now : FilterStreams
  now = filter_streams new.input output_now diag_now

  -- up to the end: the bytes are all
  pub ended_all : (t : Taken means 131072 ends.Ended old new) → IsAll old.input.left t.given
  ended_all t = all_over old.input.left new.input.left old.input new.input t.given refl refl t.gave.left t.ends.over

  pub ended_read : (t : Taken means 131072 ends.Ended old new) → AreRead start now t.pieces
  ended_read t = record {
    got = t.given;
    reads = record { given = t.gave.given; left = t.gave.left };
    of_got = ([], sym t.ends.all ∙ sym (append-nil t.pieces));
    of_left = all_first old.input.left (ended_all t);
  } where
    all_first : (l0 : Option (List ℕ)) → IsAll l0 t.given → AreFirst l0 t.pieces
    all_first None a = tt
    all_first (Some x) a = ([], ap (items 131072) a ∙ sym t.ends.all ∙ sym (append-nil t.pieces))

  pub ended_got : (t : Taken means 131072 ends.Ended old new) → (ended_read t).got ≡ t.given
  unfolding ended_read
  ended_got t = refl

  -- up to a fault, or up to many bytes: the lines are those that were whole
  pub whole_read : (given : List ℕ) (pieces : List Piece) → SourceGave old.input new.input given → pieces ≡ whole 131072 given → AreRead start now pieces
  whole_read given pieces gave all =
      let w = whole_first given [] in
      record {
        got = given;
        reads = record { given = gave.given; left = gave.left };
        of_got = (w.0, no_bytes given (whole 131072 given) w.0 w.1 ∙ ap (λ (ls : List Piece). ls ++ w.0) (sym all));
        of_left = first_lines old.input.left new.input.left given pieces gave.left (λ left e. let m = whole_first given left in (m.0, m.1 ∙ ap (λ (ls : List Piece). ls ++ m.0) (sym all)));
      }

  pub whole_got : (given : List ℕ) (pieces : List Piece) (gave : SourceGave old.input new.input given) (all : pieces ≡ whole 131072 given) → (whole_read given pieces gave all).got ≡ given
  unfolding whole_read
  whole_got given pieces gave all = refl

  -- up to a stop
  pub stopped_read : (stop : X) (t : Taken means 131072 (ends.Stopped stop) old new) → AreRead start now t.pieces
  stopped_read stop t =
      let f = t.ends in
      let w = f.prefix [] (λ _. refl) in
      record {
        got = t.given;
        reads = record { given = t.gave.given; left = t.gave.left };
        of_got = (w.0, no_bytes t.given t.pieces w.0 w.1);
        of_left = of old.input.left new.input.left t.gave.left f.at_end;
      } where
        of : (l0 l : Option (List ℕ)) → Consumes l0 l t.given → (t.ends.ended ≡ true → IfSome l0 (λ _. IsAtEnd l)) → AreFirst l0 t.pieces
        of None l c e = tt
        of (Some x) None c e = absurd c
        of (Some x) (Some y) c e = let m = t.ends.prefix y e in (m.0, ap (items 131072) c ∙ m.1)

  pub stopped_got : (stop : X) (t : Taken means 131072 (ends.Stopped stop) old new) → (stopped_read stop t).got ≡ t.given
  unfolding stopped_read
  stopped_got stop t = refl

-- WHICH LINES BYTES HAVE

-- all lines of an input that was read whole
pub items_read : (start now : FilterStreams) (got : List ℕ) → Got start now got → IsAll start.input.left got → AreRead start now (items 131072 got)
items_read start now got g a = record {
  got = got;
  reads = g;
  of_got = ([], sym (append-nil (items 131072 got)));
  of_left = of start.input.left a;
} where
  of : (l0 : Option (List ℕ)) → IsAll l0 got → AreFirst l0 (items 131072 got)
  of None a = tt
  of (Some x) a = ([], ap (items 131072) a ∙ sym (append-nil (items 131072 got)))

pub items_got : (start now : FilterStreams) (got : List ℕ) (g : Got start now got) (a : IsAll start.input.left got) → (items_read start now got g a).got ≡ got
unfolding items_read
items_got start now got g a = refl

-- the lines that were whole
pub whole_lines_read : (start now : FilterStreams) (got : List ℕ) → Got start now got → AreRead start now (whole 131072 got)
whole_lines_read start now got g =
    let w = whole_first got [] in
    record {
      got = got;
      reads = g;
      of_got = (w.0, no_bytes got (whole 131072 got) w.0 w.1);
      of_left = first_lines start.input.left now.input.left got (whole 131072 got) g.left (λ left e. whole_first got left);
    }

pub whole_lines_got : (start now : FilterStreams) (got : List ℕ) (g : Got start now got) → (whole_lines_read start now got g).got ≡ got
unfolding whole_lines_read
whole_lines_got start now got g = refl

pub first_of : (l0 : Option (List ℕ)) (lines : List Piece) (x : List ℕ) → AreFirst l0 lines → l0 ≡ Some x → (ls : List Piece) × (items 131072 x ≡ lines ++ ls)
first_of None lines x a e = cc
first_of (Some y) lines x a e = let same : y ≡ x = cc in subst (λ (z : List ℕ). (ls : List Piece) × (items 131072 z ≡ lines ++ ls)) same a

pub all_of : (l0 : Option (List ℕ)) (got x : List ℕ) → IsAll l0 got → l0 ≡ Some x → x ≡ got
all_of None got x a e = cc
all_of (Some y) got x a e = let same : y ≡ x = cc in sym same ∙ a
