-- Parts of a line, and the names and values of options.
use Rattle.std.proofs.Common.{◌≡◌, ℕ, ◌+◌, ◌<◌, ◌≤◌, List, [], ◌∷◌, ◌++◌, Bool, true, false, not, ◌&&◌, ◌||◌, cond, Some, None, ltb, leb, take, drop, length, codes, refl, sym, ap, ◌∙◌, arith, length-append}
use Rattle.std.proofs.lemmas.Bool.Decides.{nat_tests}
use Rattle.std.proofs.lemmas.List.{take-append-drop}
use Rattle.std.proofs.lemmas.List.Folds.{list_all-append}
use Rattle.std.specs.List.{list_all}
use Rattle.std.proofs.lemmas.Bool.{and_parts, and_from}
use Rattle.line_io.specs.Event.{is_line, has_feed}
use Rattle.line_io.specs.Lines.{is_feed}
use Rattle.protocol_tokens.specs.Tokens.{is_white, is_blank, trim_left, trim_right, trimmed, rest_after_token}
use Rattle.protocol_tokens.proofs.Trims.{trimmed_again}
use Rattle.uci_lines.specs.Written.{is_trimmed_text, holds_value}
use Rattle.uci_lines.specs.Orders.{SetOption, uci_order_text}
use Rattle.uci_lines.proofs.Counts.{text_same}
use Rattle.uci_lines.proofs.Prefixes.{prefix, behind, joined}
use Rattle.uci_lines.proofs.TextLengths.{setting_length}
use Rattle.option_map.specs.WaitingOrders.Held.{HasNoLineFeed}
use Rattle.option_map.specs.DeclaredOptions.Spelled.{OrderIsSpelled}

-- PARTS OF A LINE

abbrev pub no_feed : List ℕ → Bool
no_feed t = list_all (λ b. not (is_feed b)) t

-- no line feed, and at most so many bytes
pub record IsPart (most : ℕ) (t : List ℕ) : Type 0 where
  pub line : HasNoLineFeed t
  pub short : length t ≤ most

pub prefix_part : {most : ℕ} (a b whole : List ℕ) → whole ≡ a ++ b → IsPart most whole → IsPart most a
prefix_part {most} a b whole e p = record {
  line = (and_parts (no_feed a) (no_feed b) (sym (list_all-append (λ x. not (is_feed x)) a b) ∙ ap no_feed (sym e) ∙ p.line)).0;
  short = omega (arith, p.short, length-append a b, ap length e);
}

pub back_part : {most : ℕ} (a b whole : List ℕ) → whole ≡ a ++ b → IsPart most whole → IsPart most b
back_part {most} a b whole e p = record {
  line = (and_parts (no_feed a) (no_feed b) (sym (list_all-append (λ x. not (is_feed x)) a b) ∙ ap no_feed (sym e) ∙ p.line)).1;
  short = omega (arith, p.short, length-append a b, ap length e);
}

none_fed : (t : List ℕ) → not (has_feed t) ≡ true → no_feed t ≡ true
none_fed [] h = refl
none_fed (b ∷ bs) h = fed_step (is_feed b) (has_feed bs) (no_feed bs) h (none_fed bs)
  where
    fed_step : (w x y : Bool) → not (w || x) ≡ true → (not x ≡ true → y ≡ true) → (not w && y) ≡ true
    fed_step true x y e f = absurd (cc)
    fed_step false x y e f = f e

pub line_part : (t : List ℕ) → is_line t ≡ true → IsPart 65536 t
line_part t h =
    let parts = and_parts (leb (length t) 65536) (not (has_feed t)) h in
    record { line = none_fed t parts.1; short = grind (arith, nat_tests, parts.0) }

left_step : {most : ℕ} (w : Bool) (b : ℕ) (bs rest_after_token : List ℕ) → IsPart most (b ∷ bs) → (IsPart most bs → IsPart most rest_after_token) → IsPart most (cond w rest_after_token (b ∷ bs))
left_step true b bs rest_after_token p f = f (back_part (b ∷ []) bs (b ∷ bs) refl p)
left_step false b bs rest_after_token p f = p

pub left_part : {most : ℕ} (t : List ℕ) → IsPart most t → IsPart most (trim_left t)
left_part [] p = p
left_part (b ∷ bs) p = left_step (is_white b) b bs (trim_left bs) p (λ q. left_part bs q)

-- the bytes that trimming takes from the end
right_step : (w : Bool) (b : ℕ) (bs prefix : List ℕ) → (cut : List ℕ) × (bs ≡ prefix ++ cut) → (cut : List ℕ) × (b ∷ bs ≡ cond w [] (b ∷ prefix) ++ cut)
right_step true b bs prefix c = (b ∷ bs, refl)
right_step false b bs prefix c = (c.0, ap (λ t. b ∷ t) c.1)

right_cut : (t : List ℕ) → (cut : List ℕ) × (t ≡ trim_right t ++ cut)
right_cut [] = ([], refl)
right_cut (b ∷ bs) = right_step (is_white b && is_blank bs) b bs (trim_right bs) (right_cut bs)

pub trimmed_part : {most : ℕ} (t : List ℕ) → IsPart most t → IsPart most (trimmed t)
trimmed_part t p = let c = right_cut (trim_left t) in prefix_part (trimmed t) c.0 (trim_left t) c.1 (left_part t p)

pub rest_part : {most : ℕ} (t : List ℕ) → IsPart most t → IsPart most (rest_after_token t)
rest_part t p =
    let l = trim_left t in
    trimmed_part (behind l) (back_part (prefix l) (behind l) l (sym (joined l)) (left_part t p))

pub drop_part : {most : ℕ} (n : ℕ) (t : List ℕ) → IsPart most t → IsPart most (drop n t)
drop_part n t p = back_part (take n t) (drop n t) t (sym (take-append-drop n t)) p

-- NAMES AND VALUES

-- a part that is trimmed
pub record IsPiece (most : ℕ) (t : List ℕ) : Type 0 where
  pub part : IsPart most t
  pub trim : trimmed t ≡ t

pub trimmed_piece : {most : ℕ} (t : List ℕ) → IsPart most t → IsPiece most (trimmed t)
trimmed_piece t p = record { part = trimmed_part t p; trim = trimmed_again t }

pub rest_piece : {most : ℕ} (t : List ℕ) → IsPart most t → IsPiece most (rest_after_token t)
rest_piece t p = record { part = rest_part t p; trim = trimmed_again (behind (trim_left t)) }

-- a value that an order may have
pub record IsValue (most : ℕ) (t : List ℕ) : Type 0 where
  pub part : IsPart most t
  pub text : is_trimmed_text t ≡ true

some_length : (n : ℕ) → 0 < n → ltb 0 n ≡ true
some_length n h = grind (arith, nat_tests)

pub trimmed_text : (t : List ℕ) → trimmed t ≡ t → 0 < length t → is_trimmed_text t ≡ true
trimmed_text t e h = rw (some_length (length t) h, text_same (trimmed t) t e) refl

pub piece_value : {most : ℕ} (t : List ℕ) → IsPiece most t → 0 < length t → IsValue most t
piece_value t p h = record { part = p.part; text = trimmed_text t p.trim h }

-- a name that an order may have
pub record IsName (t : List ℕ) : Type 0 where
  pub part : IsPart 128 t
  pub text : is_trimmed_text t ≡ true
  pub alone : holds_value t ≡ false
  pub before_value : holds_value (t ++ codes " value") ≡ false

no_feed_both : (a b : List ℕ) → no_feed a ≡ true → no_feed b ≡ true → no_feed (a ++ b) ≡ true
no_feed_both a b e f = list_all-append (λ x. not (is_feed x)) a b ∙ and_from (no_feed a) (no_feed b) e f

pub value_spelled : {most : ℕ} (all : ℕ) (name value : List ℕ) → IsName name → IsValue most value → 150 + most ≤ all → OrderIsSpelled all (SetOption name (Some value))
unfolding uci_order_text
value_spelled {most} all name value n v h =
    let tail : no_feed (codes " value " ++ value) ≡ true = v.part.line in
    let text : no_feed ((codes "setoption name " ++ name) ++ (codes " value " ++ value)) ≡ true = no_feed_both (codes "setoption name " ++ name) (codes " value " ++ value) n.part.line tail in
    let fit : (is_trimmed_text name && is_trimmed_text value && not (holds_value (name ++ codes " value"))) ≡ true = rw (n.text, v.text, n.before_value) refl in
    record {
      fits = fit;
      is_line = text;
      short = omega (arith, h, n.part.short, setting_length name (Some value) most v.part.short);
    }

pub button_spelled : (all : ℕ) (name : List ℕ) → IsName name → 150 ≤ all → OrderIsSpelled all (SetOption name None)
unfolding uci_order_text
button_spelled all name n h =
    let text : no_feed ((codes "setoption name " ++ name) ++ []) ≡ true = no_feed_both (codes "setoption name " ++ name) [] n.part.line refl in
    let fit : (is_trimmed_text name && not (holds_value name)) ≡ true = rw (n.text, n.alone) refl in
    record { fits = fit; is_line = text; short = omega (arith, h, n.part.short, setting_length name None 0 (omega arith)) }
