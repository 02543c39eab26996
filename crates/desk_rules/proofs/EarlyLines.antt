-- Early lines, as they are kept.
use Rattle.std.proofs.Common.{◌≡◌, ℕ, suc, ◌+◌, ◌<◌, ◌≤◌, List, [], ◌∷◌, ◌++◌, length, Bool, true, false, not, cond, ◌&&◌, ◌||◌, nat_le, refl, sym, ap, ◌∙◌, arith, length-append, append_assoc, append-nil}
use Rattle.std.specs.List.{onto_first, before_first, after_first, flat_map, AllByRecursion}
use Rattle.std.proofs.lemmas.Bool.{not-true, or_from, and_parts, leb-true}
use Rattle.std.proofs.lemmas.Grind.{flat_map-append}
use Rattle.line_io.specs.Event.{is_line, has_feed}
use Rattle.line_io.specs.Lines.{parts_by_feed, is_feed}
use Rattle.line_io.proofs.Parts.{parts_first}
use Rattle.desk_rules.specs.Early.{lines_with_feeds, may_wait, EarlyLinesAreFew}

-- LINE BY LINE

-- the first line of a text that is there, and the lines after it
pub some_lines : (text line others : List ℕ) → 0 < length text → line ≡ before_first is_feed text → others ≡ after_first is_feed text → parts_by_feed text ≡ line ∷ parts_by_feed others
some_lines [] line others h e f = absurd (omega arith)
some_lines (x ∷ xs) line others h e f = rw (e, f) (parts_first x xs)

parts_line : (line rest : List ℕ) → has_feed line ≡ false → parts_by_feed (line ++ 10 ∷ rest) ≡ line ∷ parts_by_feed rest
parts_line [] rest none = refl
parts_line (x ∷ xs) rest none =
    (elim (is_feed x) as (λ v. (v || has_feed xs) ≡ false → cond v ([] ∷ parts_by_feed (xs ++ 10 ∷ rest)) (onto_first x (parts_by_feed (xs ++ 10 ∷ rest))) ≡ (x ∷ xs) ∷ parts_by_feed rest) [
      | true ↦ λ e. cc
      | false ↦ λ e. ap (onto_first x) (parts_line xs rest e)
    ]) none

-- there is no line feed in any of them
abbrev AreBare : List (List ℕ) → Type 0
AreBare ps = AllByRecursion (λ p. has_feed p ≡ false) ps

onto_bare : (x : ℕ) (ps : List (List ℕ)) → is_feed x ≡ false → AreBare ps → AreBare (onto_first x ps)
onto_bare x [] e b = (or_from (is_feed x) false e refl, tt)
onto_bare x (p ∷ ps) e b = (or_from (is_feed x) (has_feed p) e b.0, b.1)

bare_next : (x : ℕ) (ps : List (List ℕ)) (v : Bool) → is_feed x ≡ v → AreBare ps → AreBare (cond v ([] ∷ ps) (onto_first x ps))
bare_next x ps true e b = (refl, b)
bare_next x ps false e b = onto_bare x ps e b

bare_parts : (xs : List ℕ) → AreBare (parts_by_feed xs)
bare_parts [] = tt
bare_parts (x ∷ xs) = bare_next x (parts_by_feed xs) (is_feed x) refl (bare_parts xs)

bare_more : (ps : List (List ℕ)) (line : List ℕ) → AreBare ps → has_feed line ≡ false → AreBare (ps ++ line ∷ [])
bare_more [] line b e = (e, tt)
bare_more (p ∷ ps) line b e = (b.0, bare_more ps line b.1 e)

fed_back : (ps : List (List ℕ)) → AreBare ps → parts_by_feed (lines_with_feeds ps) ≡ ps
fed_back [] b = refl
fed_back (p ∷ ps) b = ap parts_by_feed (append_assoc p (10 ∷ []) (lines_with_feeds ps)) ∙ parts_line p (lines_with_feeds ps) b.0 ∙ ap (λ (qs : List (List ℕ)). p ∷ qs) (fed_back ps b.1)

-- ONE MORE

pub fed_more : (ps : List (List ℕ)) (line : List ℕ) → lines_with_feeds (ps ++ line ∷ []) ≡ lines_with_feeds ps ++ (line ++ 10 ∷ [])
fed_more ps line = flat_map-append (λ (l : List ℕ). l ++ 10 ∷ []) ps (line ∷ []) ∙ ap (λ (t : List ℕ). lines_with_feeds ps ++ t) (append-nil (line ++ 10 ∷ []))

pub fed_length : (ps : List (List ℕ)) (line : List ℕ) → length (lines_with_feeds (ps ++ line ∷ [])) ≡ length (lines_with_feeds ps) + length line + 1
fed_length ps line = omega (arith, ap length (fed_more ps line), length-append (lines_with_feeds ps) (line ++ 10 ∷ []), length-append line (10 ∷ []))

pub fed_first : (line : List ℕ) (ps : List (List ℕ)) → length (lines_with_feeds (line ∷ ps)) ≡ length line + 1 + length (lines_with_feeds ps)
fed_first line ps = omega (arith, length-append (line ++ 10 ∷ []) (lines_with_feeds ps), length-append line (10 ∷ []))

bare_line : (line : List ℕ) → is_line line ≡ true → has_feed line ≡ false
bare_line line e = not-true (has_feed line) (and_parts (nat_le (length line) 65536) (not (has_feed line)) e).1

-- the text with one more line
pub record IsMore (old new line : List ℕ) : Type 0 where
  pub lines : parts_by_feed new ≡ parts_by_feed old ++ line ∷ []
  pub closed : new ≡ lines_with_feeds (parts_by_feed new)

pub kept_more : (old new line : List ℕ) → old ≡ lines_with_feeds (parts_by_feed old) → new ≡ (old ++ line) ++ 10 ∷ [] → is_line line ≡ true → IsMore old new line
kept_more old new line closed e l =
    let text : new ≡ lines_with_feeds (parts_by_feed old ++ line ∷ []) =
    e ∙ append_assoc old line (10 ∷ []) ∙ ap (λ (t : List ℕ). t ++ (line ++ 10 ∷ [])) closed ∙ sym (fed_more (parts_by_feed old) line) in
    let lines : parts_by_feed new ≡ parts_by_feed old ++ line ∷ [] = ap parts_by_feed text ∙ fed_back (parts_by_feed old ++ line ∷ []) (bare_more (parts_by_feed old) line (bare_parts old) (bare_line line l)) in
    record { lines = lines; closed = text ∙ ap lines_with_feeds (sym lines) }

-- WHETHER ONE MORE MAY WAIT

pub waits_few : (early : List (List ℕ)) (line : List ℕ) → may_wait early line ≡ true → length (early ++ line ∷ []) ≤ 250
waits_few early line w =
    leb-true (length (early ++ line ∷ [])) 250 (and_parts (nat_le (length (early ++ line ∷ [])) 250) (nat_le (length (lines_with_feeds (early ++ line ∷ []))) 32768) w).0

pub waits_short : (early : List (List ℕ)) (line : List ℕ) → may_wait early line ≡ true → length (lines_with_feeds (early ++ line ∷ [])) ≤ 32768
waits_short early line w =
    leb-true (length (lines_with_feeds (early ++ line ∷ []))) 32768 (and_parts (nat_le (length (early ++ line ∷ [])) 250) (nat_le (length (lines_with_feeds (early ++ line ∷ []))) 32768) w).1

lines_more : (early : List (List ℕ)) (line : List ℕ) → AllByRecursion (λ l. is_line l ≡ true) early → is_line line ≡ true → AllByRecursion (λ l. is_line l ≡ true) (early ++ line ∷ [])
lines_more [] line a e = (e, tt)
lines_more (l ∷ early) line a e = (a.0, lines_more early line a.1 e)

pub early_more : (early : List (List ℕ)) (line : List ℕ) → EarlyLinesAreFew early → is_line line ≡ true → may_wait early line ≡ true → EarlyLinesAreFew (early ++ line ∷ [])
early_more early line a e w = record { lines = lines_more early line a.lines e; few = waits_few early line w; short = waits_short early line w }

pub none_early : EarlyLinesAreFew []
none_early = record { lines = tt; few = omega arith; short = omega arith }

pub early_left : (b : Bool) (early : List (List ℕ)) → EarlyLinesAreFew early → EarlyLinesAreFew (cond b [] early)
early_left true early a = none_early
early_left false early a = a
