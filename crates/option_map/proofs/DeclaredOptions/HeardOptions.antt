-- The options that lines of an engine declare.
use Rattle.std.proofs.Common.{◌≡◌, ℕ, zero, suc, ◌+◌, ◌^◌, ◌<◌, ◌≤◌, List, [], ◌∷◌, ◌++◌, Bool, true, false, not, ◌&&◌, cond, length, drop, codes, Option, Some, None, refl, sym, ap, subst, arith}
use Rattle.std.specs.Prelude.{ℤ, pos, neg_ℤ, nat_abs, int_lt, IfSome}
use Rattle.std.specs.Int.{int_min, int_max}
use Rattle.std.specs.Option.{option_or}
use Rattle.std.specs.List.{AllByRecursion, onto_first, before_first}
use Rattle.std.specs.Str.Parse.{starts_with_minus}
use Rattle.std.proofs.lemmas.Bool.{and_parts}
use Rattle.line_io.specs.Lines.{is_feed}
use Rattle.protocol_tokens.specs.Tokens.{is_white, trimmed, first_token, rest_after_token, tokens}
use Rattle.protocol_tokens.specs.Numbers.{signed_number, count, positive, negative}
use Rattle.protocol_tokens.proofs.Sizes.{digits_small}
use Rattle.uci_lines.specs.Cuts.{Found, found_token, is_word, is_known, is_choice}
use Rattle.uci_lines.specs.Choices.{pieces, values_among, values, default_value}
use Rattle.uci_lines.specs.Options.{first_signed, range_from, no_range, spin, spin_in, shape_named, uci_option_line, option_with, option_said, is_on, text_after}
use Rattle.uci_lines.specs.Messages as says
use Rattle.uci_lines.specs.Messages.{EngineMsg, OptionKind}
use Rattle.uci_lines.specs.Engine.{engine_message, found_message, said_after, name_said, best_said}
use Rattle.uci_lines.specs.Infos.{facts_in}
use Rattle.uci_lines.proofs.Cutting.{cut_is}
use Rattle.uci_lines.proofs.Ranges.{last_from, min_is, max_is}
use Rattle.option_map.proofs.DeclaredOptions.Values.{no_feed, IsPart, IsPiece, prefix_part, back_part, trimmed_piece, rest_piece, rest_part}

-- NUMBERS

-- at most 18 digits
abbrev pub IsCount : ℤ → Type 0
IsCount z = nat_abs z < 10 ^ 18

positive_count : (d : Option ℕ) → ((n : ℕ) → d ≡ Some n → n < 10 ^ 18) → IfSome (positive d) IsCount
positive_count None f = tt
positive_count (Some n) f = f n refl

size_of_negative : (n : ℕ) → n < 10 ^ 18 → nat_abs (neg_ℤ (pos n)) < 10 ^ 18
size_of_negative zero h = h
size_of_negative (suc n) h = h

negative_count : (d : Option ℕ) → ((n : ℕ) → d ≡ Some n → n < 10 ^ 18) → IfSome (negative d) IsCount
negative_count None f = tt
negative_count (Some n) f = size_of_negative n (f n refl)

pub if_some : {A : Type 0} → (P : A → Type 0) (w : Bool) (a b : Option A) → IfSome a P → IfSome b P → IfSome (cond w a b) P
if_some P true a b h k = h
if_some P false a b h k = k

pub signed_count : (t : List ℕ) → IfSome (signed_number t) IsCount
signed_count t =
    if_some IsCount (starts_with_minus t) (negative (count (drop 1 t))) (positive (count t))
    (negative_count (count (drop 1 t)) (digits_small 18 (drop 1 t))) (positive_count (count t) (digits_small 18 t))

first_count : (ts : List (List ℕ)) → IfSome (first_signed ts) IsCount
first_count [] = tt
first_count (t ∷ ts) = signed_count t

or_some : (a b : Option ℤ) → IfSome a IsCount → IfSome b IsCount → IfSome (option_or a b) IsCount
or_some None b h k = k
or_some (Some z) b h k = h

last_count : (word : List ℕ) (old : Option ℤ) (ts : List (List ℕ)) → IfSome old IsCount → IfSome (last_from word old ts) IsCount
last_count word old [] h = h
last_count word old (t ∷ ts) h =
    last_count word (cond (is_word word t) (option_or (first_signed ts) old) old) ts
    (if_some IsCount (is_word word t) (option_or (first_signed ts) old) old (or_some (first_signed ts) old (first_count ts) h) h)

-- THE KINDS OF OPTIONS AS LINES TELL THEM

abbrev pub IsHeardShape : OptionKind → Type 0
IsHeardShape (says.Spin default min max) = IsCount min × IsCount max
IsHeardShape (says.Combo default texts) = AllByRecursion (IsPiece 65536) texts
IsHeardShape _ = Unit {0}

spin_step : (w : Bool) (d min max : ℤ) → IsCount min → IsCount max → IfSome (cond w None (Some (says.Spin d min max))) IsHeardShape
spin_step true d min max h k = tt
spin_step false d min max h k = (h, k)

spin_heard : (d min max : Option ℤ) → IfSome min IsCount → IfSome max IsCount → IfSome (spin d min max) IsHeardShape
spin_heard None min max h k = tt
spin_heard (Some d) None max h k = tt
spin_heard (Some d) (Some min) None h k = tt
spin_heard (Some d) (Some min) (Some max) h k = spin_step (int_lt max min) (int_max min (int_min d max)) min max h k

range_heard : (ts : List (List ℕ)) → IfSome (spin_in (range_from no_range ts)) IsHeardShape
range_heard ts =
    let r = range_from no_range ts in
    spin_heard r.default r.min r.max
    (subst (λ (o : Option ℤ). IfSome o IsCount) (sym (min_is no_range ts)) (last_count (codes "min") None ts tt))
    (subst (λ (o : Option ℤ). IfSome o IsCount) (sym (max_is no_range ts)) (last_count (codes "max") None ts tt))

-- the pieces of a combo
wider : (m n : ℕ) (ps : List (List ℕ)) → m ≤ n → AllByRecursion (IsPart m) ps → AllByRecursion (IsPart n) ps
wider m n [] l h = tt
wider m n (p ∷ ps) l h = (record { line = h.0.line; short = omega (arith, l, h.0.short) }, wider m n ps l h.1)

onto_parts : (m : ℕ) (b : ℕ) (ps : List (List ℕ)) → not (is_feed b) ≡ true → AllByRecursion (IsPart m) ps → AllByRecursion (IsPart (m + 1)) (onto_first b ps)
onto_parts m b [] e h = (record { line = ap (λ w. w && true) e; short = omega arith }, tt)
onto_parts m b (p ∷ ps) e h = (record { line = rw (e, h.0.line) refl; short = omega (arith, h.0.short) }, wider m (m + 1) ps (omega arith) h.1)

pieces_step : (w : Bool) (n : ℕ) (onto : List (List ℕ)) → AllByRecursion (IsPart n) onto → AllByRecursion (IsPart n) (cond w ([] ∷ onto) onto)
pieces_step true n onto h = (record { line = refl; short = omega arith }, h)
pieces_step false n onto h = h

pieces_parts : (fresh : Bool) (t : List ℕ) (n : ℕ) → IsPart n t → AllByRecursion (IsPart n) (pieces fresh t)
pieces_parts fresh [] n p = (p, tt)
pieces_parts fresh (b ∷ bs) n p =
    let bytes = and_parts (not (is_feed b)) (no_feed bs) p.line in
    let inner = pieces_parts (is_white b) bs (length bs) (record { line = bytes.1; short = omega arith }) in
    let outer = wider (length bs + 1) n (onto_first b (pieces (is_white b) bs)) (omega (arith, p.short)) (onto_parts (length bs) b (pieces (is_white b) bs) bytes.0 inner) in
    pieces_step (fresh && is_choice (before_first is_white (b ∷ bs))) n (onto_first b (pieces (is_white b) bs)) outer

value_step : (w : Bool) (piece : List ℕ) (others : List (List ℕ)) → IsPart 65536 piece → AllByRecursion (IsPiece 65536) others → AllByRecursion (IsPiece 65536) (cond w (rest_after_token piece ∷ others) others)
value_step true piece others p h = (rest_piece piece p, h)
value_step false piece others p h = h

among_pieces : (ps : List (List ℕ)) → AllByRecursion (IsPart 65536) ps → AllByRecursion (IsPiece 65536) (values_among ps)
among_pieces [] h = tt
among_pieces (p ∷ ps) h = value_step (is_word (codes "var") (first_token p)) p (values_among ps) h.0 (among_pieces ps h.1)

values_pieces : (text : List ℕ) → IsPart 65536 text → AllByRecursion (IsPiece 65536) (values text)
unfolding values
values_pieces text p = among_pieces (pieces true text) (pieces_parts true text 65536 p)

shape_heard : (word text : List ℕ) → IsPart 65536 text → IfSome (shape_named word text) IsHeardShape
shape_heard word text p =
    if_some IsHeardShape (is_word (codes "check") word) (Some (says.Check (is_on (found_token (is_word (codes "default")) true text)))) _ tt
    (if_some IsHeardShape (is_word (codes "spin") word) (spin_in (range_from no_range (tokens text))) _ (range_heard (tokens text))
    (if_some IsHeardShape (is_word (codes "combo") word) (Some (says.Combo (default_value text) (values text))) _ (values_pieces text p)
    (if_some IsHeardShape (is_word (codes "button") word) (Some says.Button) _ tt
    (if_some IsHeardShape (is_word (codes "string") word) (Some (says.Text (text_after (found_token (is_word (codes "default")) true text)))) None tt tt))))

-- LINES

-- the option that is declared, if one is
abbrev pub IsHeardOption : EngineMsg → Type 0
IsHeardOption (says.OptionLine name shape) = IsPiece 65536 name × IsHeardShape shape
IsHeardOption _ = Unit {0}

line_heard : (name : List ℕ) (shape : Option OptionKind) → IsPiece 65536 name → IfSome shape IsHeardShape → IsHeardOption (uci_option_line name shape)
line_heard name None p h = tt
line_heard name (Some shape) p h = (p, h)

cut_parts : (test : List ℕ → Bool) (text : List ℕ) (part : Found) → found_token test true text ≡ Some part → IsPart 65536 text → IsPart 65536 part.before × IsPart 65536 part.after
cut_parts test text part e p =
    let whole = (cut_is test true text part e).whole in
    let later = back_part part.before (part.word ++ part.after) text whole p in
    (prefix_part part.before (part.word ++ part.after) text whole p, back_part part.word part.after (part.word ++ part.after) refl later)

with_heard : (text : List ℕ) (o : Option Found) → found_token (is_word (codes "type")) true text ≡ o → IsPart 65536 text → IsHeardOption (option_with o)
with_heard text None e p = tt
with_heard text (Some part) e p =
    let parts = cut_parts (is_word (codes "type")) text part e p in
    line_heard (trimmed part.before) (shape_named (first_token part.after) (rest_after_token part.after)) (trimmed_piece part.before parts.0) (shape_heard (first_token part.after) (rest_after_token part.after) (rest_part part.after parts.1))

either_heard : (w : Bool) (x y : EngineMsg) → IsHeardOption x → IsHeardOption y → IsHeardOption (cond w x y)
either_heard true x y h k = h
either_heard false x y h k = k

said_heard : (text : List ℕ) → IsPart 65536 text → IsHeardOption (option_said text)
unfolding option_said
said_heard text p =
    either_heard (is_word (codes "name") (first_token text)) (option_with (found_token (is_word (codes "type")) true (rest_after_token text))) says.Nothing
    (with_heard (rest_after_token text) (found_token (is_word (codes "type")) true (rest_after_token text)) refl (rest_part text p)) tt

after_heard : (word text : List ℕ) → IsPart 65536 text → IsHeardOption (said_after word text)
after_heard word text p =
    either_heard (is_word (codes "id") word) (name_said text) _ (either_heard (is_word (codes "name") (first_token text)) (says.Name (rest_after_token text)) says.Nothing tt tt)
    (either_heard (is_word (codes "uciok") word) says.UciOk _ tt
    (either_heard (is_word (codes "readyok") word) says.ReadyOk _ tt
    (either_heard (is_word (codes "bestmove") word) (best_said text) _ tt
    (either_heard (is_word (codes "info") word) (says.Info (facts_in text)) (option_said text) tt (said_heard text p)))))

by_heard : (line : List ℕ) (o : Option Found) → found_token is_known true line ≡ o → IsPart 65536 line → IsHeardOption (found_message o)
by_heard line None e p = tt
by_heard line (Some part) e p = after_heard part.word part.after (cut_parts is_known line part e p).1

pub message_heard : (line : List ℕ) → IsPart 65536 line → IsHeardOption (engine_message line)
unfolding engine_message
message_heard line p = by_heard line (found_token is_known true line) refl p
