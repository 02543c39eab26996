-- An order may be heard before an option is declared: less is known then.
use Rattle.std.proofs.Common.{◌≡◌, ◌⊎◌, inl, inr, ℕ, List, length, Bool, true, false, cond, ◌||◌, Option, Some, None, refl, sym, ap, subst, arith, lt-ltb}
use Rattle.std.proofs.lemmas.Bool.{eqb-false}
use Rattle.std.specs.Prelude.{◌==◌, nat_lt, codes}
use Rattle.std.specs.Str.{str_eq_ignore_ascii_case}
use Rattle.protocol_tokens.specs.Tokens.{rest_after_token, tokens}
use Rattle.chess_board.specs.declared.board.Move.{Move}
use Rattle.chess_board.specs.Position.{Position}
use Rattle.uci_lines.specs.Engine.{engine_message}
use Rattle.uci_lines.specs.Messages.{EngineMsg, OptionKind, OptionLine, Check, Combo}
use Rattle.engine_conduct.specs.declared.orders.AskedWord.{AskedWord}
use Rattle.engine_conduct.specs.declared.orders.AskedWord.TheVariants as words
use Rattle.engine_conduct.specs.declared.orders.HeardOrder.{HeardOrder}
use Rattle.engine_conduct.specs.declared.orders.HeardOrder.TheVariants as orders
use Rattle.engine_conduct.specs.declared.orders.PlayedGame.TheVariants as games
use Rattle.engine_conduct.specs.declared.orders.GameOption.{GameOption}
use Rattle.engine_conduct.specs.declared.orders.GameOption.TheVariants as options
use Rattle.engine_conduct.specs.declared.orders.GameChoice.{GameChoice}
use Rattle.engine_conduct.specs.declared.orders.GameChoice.TheVariants as choices
use Rattle.engine_conduct.specs.declared.search.OpenSearch.{OpenSearch}
use Rattle.engine_conduct.specs.declared.search.OpenSearch.TheVariants as searches
use Rattle.engine_conduct.specs.declared.words.EngineWord.TheVariants as engines
use Rattle.engine_conduct.specs.Conduct.{Conduct}
use Rattle.engine_conduct.specs.Defaults.{behind_kind, breaks_check, breaks_default, is_no_truth, is_off_option}
use Rattle.engine_conduct.specs.Innocent.{KeepsUci}
use Rattle.engine_conduct.specs.Known.{after_choice}
use Rattle.engine_conduct.specs.Orders.{declared_by_kind, declared_set, is_plain_game, option_named, variant_set}
use Rattle.engine_conduct.specs.Searches.{began_search, lost_place, search_hit, search_stopped}
use Rattle.engine_conduct.specs.Words.{behind_word}
use Rattle.engine_conduct.proofs.Below.{KnowsLess, SearchBelow, ordered, same_below, search_same, told}
use Rattle.engine_conduct.proofs.Kept.{chose, kept_order}
use Rattle.engine_conduct.proofs.OtherWords.{or_first, or_second}

-- An option that keeps to UCI chooses no game, or another than chess.
check_off : (name : List ℕ) (default : Option (List (List ℕ))) → is_off_option name ≡ true → breaks_check name true default ≡ true
check_off name None e = e
check_off name (Some ts) e = by (is_no_truth ts) where
  by : (z : Bool) → (z || is_off_option name) ≡ true
  by true = refl
  by false = e

abbrev ChoosesOther : Option GameChoice → Type 0
ChoosesOther choice = (choice ≡ None) ⊎ (choice ≡ Some (choices.Game games.Other))

other_game : (z : Bool) → ChoosesOther (cond z None (Some (choices.Game games.Other)))
other_game true = inl refl
other_game false = inr refl

by_kind : (o : Option GameOption) (name : List ℕ) (kind : OptionKind) (ts : List (List ℕ)) → (o ≡ Some options.Chess960 → is_off_option name ≡ true) → breaks_default (OptionLine name kind) ts ≡ false
    → ChoosesOther (declared_by_kind o kind)
by_kind (Some options.Chess960) name (Check true) ts off h = let x = check_off name (behind_word (codes "default") ts) (off refl) in absurd (cc)
by_kind (Some options.Chess960) name kind ts off h = inl refl
by_kind (Some options.Variant) name (Combo default values) ts off h = other_game (length default == 0 || is_plain_game default)
by_kind (Some options.Variant) name kind ts off h = inl refl
by_kind None name kind ts off h = inl refl

named_first : (z y : Bool) → cond z (Some options.Chess960) (cond y (Some options.Variant) None) ≡ Some options.Chess960 → z ≡ true
named_first true y e = refl
named_first false true e = absurd (cc)
named_first false false e = absurd (cc)

named_off : (name : List ℕ) → option_named name ≡ Some options.Chess960 → is_off_option name ≡ true
named_off name e =
    ap (λ (z : Bool). z || str_eq_ignore_ascii_case name (codes "UCI_ShowCurrLine") || str_eq_ignore_ascii_case name (codes "UCI_ShowRefutations") || str_eq_ignore_ascii_case name (codes "UCI_LimitStrength"))
    (named_first (str_eq_ignore_ascii_case name (codes "UCI_Chess960")) (str_eq_ignore_ascii_case name (codes "UCI_Variant") || str_eq_ignore_ascii_case name (codes "Variant")) e)

chooses_other : (m : EngineMsg) (ts : List (List ℕ)) → breaks_default m ts ≡ false → ChoosesOther (declared_set m)
chooses_other (OptionLine name kind) ts h = by_kind (option_named name) name kind ts (named_off name) h
chooses_other m ts h = inl refl

abbrev other : Option GameChoice
other = Some (choices.Game games.Other)

other_choice : (c : Conduct) (y : Option GameChoice) → KnowsLess (chose (chose c y) other) (chose (chose c other) y)
other_choice c None = same_below _
other_choice c (Some (choices.Castling x)) = same_below _
other_choice c (Some choices.Declared) = same_below _
other_choice c (Some (choices.Game g)) = λ i. record {
  heard_so = i;
  listener = refl;
  due = refl;
  castling = refl;
  game = inl refl;
  placed = inl refl;
  search = search_same _ c.listed;
}

lost_begun : (z : Bool) (p : Option Position) (ts : List (List ℕ)) (l k : List Move) → SearchBelow (lost_place (cond z (began_search p ts) searches.Mixed)) l (cond z (began_search None ts) searches.Mixed) k
lost_begun true p ts l k = record { pondering = refl; end = refl; at = inl refl }
lost_begun false p ts l k = tt

lost_stop : (s : OpenSearch) (l : List Move) → SearchBelow (lost_place (search_stopped s)) l (search_stopped (lost_place s)) l
lost_stop (searches.Alone s) l = record { pondering = refl; end = refl; at = inl refl }
lost_stop searches.None l = tt
lost_stop searches.Mixed l = tt

lost_hit : (s : OpenSearch) (l : List Move) → SearchBelow (lost_place (search_hit s)) l (search_hit (lost_place s)) l
lost_hit (searches.Alone s) l = record { pondering = refl; end = refl; at = inl refl }
lost_hit searches.None l = tt
lost_hit searches.Mixed l = tt

other_word : (c : Conduct) (o : AskedWord) (text : List ℕ) → KnowsLess (chose (ordered c 0 (orders.Word o) text) other) (ordered (chose c other) 0 (orders.Word o) text)
other_word c words.SetOption text = other_choice c (variant_set text)
other_word c words.Position text = λ i. record {
  heard_so = i;
  listener = refl;
  due = refl;
  castling = refl;
  game = inr refl;
  placed = inl refl;
  search = search_same _ c.listed;
}
other_word c words.Go text = λ i. record {
  heard_so = i;
  listener = refl;
  due = refl;
  castling = refl;
  game = inr refl;
  placed = inl refl;
  search = lost_begun (c.known.due.answers == 0) c.known.placed (tokens text) _ _;
}
other_word c words.Stop text = λ i. record {
  heard_so = i;
  listener = refl;
  due = refl;
  castling = refl;
  game = inr refl;
  placed = inl refl;
  search = lost_stop c.known.search c.listed;
}
other_word c words.PonderHit text = λ i. record {
  heard_so = i;
  listener = refl;
  due = refl;
  castling = refl;
  game = inr refl;
  placed = inl refl;
  search = lost_hit c.known.search c.listed;
}
other_word c o text = same_below _

other_order : (c : Conduct) (o : HeardOrder) (text : List ℕ) → KnowsLess (chose (ordered c 0 o text) other) (ordered (chose c other) 0 o text)
other_order c (orders.Word o) text = other_word c o text
other_order c o text = same_below _

chose_order : (c : Conduct) (x : Option GameChoice) (o : HeardOrder) (text : List ℕ) → ChoosesOther x → KnowsLess (chose (ordered c 0 o text) x) (ordered (chose c x) 0 o text)
chose_order c x o text (inl e) = subst (λ (y : Option GameChoice). KnowsLess (chose (ordered c 0 o text) y) (ordered (chose c y) 0 o text)) (sym e) (same_below (ordered c 0 o text))
chose_order c x o text (inr e) = subst (λ (y : Option GameChoice). KnowsLess (chose (ordered c 0 o text) y) (ordered (chose c y) 0 o text)) (sym e) (other_order c o text)

positive : (n : ℕ) → (n == 0) ≡ false → nat_lt 0 n ≡ true
positive n e =
    let some : n ≡ 0 → ⊥ = eqb-false n 0 e in
    lt-ltb 0 n (omega (arith, some))

-- while options are declared
said_option : (c : Conduct) (line : List ℕ) → (c.known.due.boots == 0) ≡ false → told c (Some engines.Option) line ≡ chose c (declared_set (engine_message line))
said_option c line e = ap (λ (z : Bool). record { known = cond z (after_choice c.known (declared_set (engine_message line))) c.known; listed = c.listed }) (positive c.known.due.boots e)

pub option_order : (c : Conduct) (o : HeardOrder) (text line : List ℕ) → KeepsUci c engines.Option line → KnowsLess (told (ordered c 0 o text) (Some engines.Option) line) (ordered (told c (Some engines.Option) line) 0 o text)
option_order c o text line h =
    let broken = breaks_default (engine_message line) (behind_kind (behind_word (codes "type") (tokens (rest_after_token line)))) in
    let d : Conduct = ordered c 0 o text in
    let x = declared_set (engine_message line) in
    subst (λ (a : Conduct). KnowsLess a (ordered (told c (Some engines.Option) line) 0 o text)) (sym (said_option d line (or_first (d.known.due.boots == 0) broken (kept_order c o text engines.Option line h).declares)))
    (subst (λ (a : Conduct). KnowsLess (chose d x) (ordered a 0 o text)) (sym (said_option c line (or_first (c.known.due.boots == 0) broken h.declares)))
    (chose_order c x o text (chooses_other (engine_message line) (behind_kind (behind_word (codes "type") (tokens (rest_after_token line)))) (or_second (c.known.due.boots == 0) broken h.declares))))
