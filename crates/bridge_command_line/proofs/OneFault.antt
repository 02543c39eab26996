-- A command without subcommands answers one fault at most.
use Rattle.std.proofs.Common.{◌≡◌, ◌⊎◌, inl, inr, ℕ, zero, suc, Bool, true, false, ◌==◌, ◌&&◌, nat_lt, if◌then◌else◌, List, [], ◌∷◌, Option, Some, None, refl, ap, sym}
use Rattle.std.specs.Prelude.{⊤}
use Rattle.std.specs.Prelude.{◌||◌, not, length, drop, slice_get, encode_utf8, is_some}
use Rattle.std.specs.List.{list_any}
use Rattle.std.specs.Option.{option_map_or}
use Rattle.std.specs.Str.{bytes_eq, chars}
use Rattle.clap.specs.Lexer.{long_of, short_of}
use Rattle.clap.specs.Takes.{is_given}
use Rattle.clap.specs.Facts.{explicit_source, parser_of_value, unwrap_or_range}
use Rattle.clap.specs.Faults.{values_fault, count_fault, repeat_fault, set_fault, action_fault, use_fault, settle_fault, react_fault, option_fault, long_fault, short_fault, bundle_step_fault, flags_fault, bundle_fault, flag_word_fault, other_fault, word_fault, positional_fault, stray_fault, step_fault, turn_fault, walk_fault, default_fault, defaults_fault, check_fault, level_fault, entered_fault, built_fault, fault_of}
use Rattle.clap.specs.Kinds.{Kinds, IsAmong, or_else, range_kinds, value_kinds, values_kinds, request_kinds, check_kinds}
use Rattle.clap.specs.Simple.{App, Shape, entered}
use Rattle.clap.specs.Walk.{Held, Row, Rule, Step, Text, Waiting, Walk, idle, option, positional, next, trailing, subcommand, value, action_of, arg_by_id, arg_by_index, arg_by_long, arg_by_short, attached_value, finished, has_row, is_empty, is_pending, most_values, reacted, settled, takes_several, takes_values, values_or_missing, walk, walk_from, walked, with_default, word_met}
use Rattle.clap.specs.declared.builder.action.ArgAction.{ArgAction}
use Rattle.clap.specs.declared.builder.action.ArgAction.TheVariants as actions
use Rattle.clap.specs.declared.builder.value_parser.ValueParser.{ValueParser}
use Rattle.clap.specs.declared.error.kind.ErrorKind.{ErrorKind}
use Rattle.clap.specs.declared.error.kind.ErrorKind.TheVariants as kind

abbrev IsShort : Kinds → Type 0
IsShort [] = ⊤
IsShort (k ∷ []) = ⊤
IsShort (k ∷ l ∷ ks) = ⊥

-- one fault at most
pub record AreFew (ks : Kinds) : Type 0 where
  pub short : IsShort ks

none_few : AreFew []
none_few = record { short = tt }

one_few : (k : ErrorKind) → AreFew (k ∷ [])
one_few k = record { short = tt }

or_few : (a b : Kinds) → AreFew a → AreFew b → AreFew (or_else a b)
or_few [] b f g = g
or_few (k ∷ ks) b f g = f

if_few : (c : Bool) (a b : Kinds) → AreFew a → AreFew b → AreFew (if c then a else b)
if_few true a b f g = f
if_few false a b f g = g

map_few : {A : Type 0} (f : A → Kinds) (o : Option A) (other : Kinds) → ((a : A) → AreFew (f a)) → AreFew other → AreFew (option_map_or f o other)
map_few f None other g h = h
map_few f (Some a) other g h = g a

range_few : (least most n : ℕ) → AreFew (range_kinds least most n)
range_few least most n =
    if_few (nat_lt 0 least && n == 0) _ _ (one_few kind.InvalidValue)
    (if_few (least == most) _ _ (if_few (least == n) _ _ none_few (one_few kind.WrongNumberOfValues))
    (if_few (nat_lt n least) _ _ (one_few kind.TooFewValues) (if_few (nat_lt most n) _ _ (one_few kind.TooManyValues) none_few)))

value_few : (ignore : Bool) (p : ValueParser) (v : Text) → AreFew (value_kinds ignore p v)
value_few ignore p v = if_few _ _ _ none_few (one_few _)

values_few : (ignore : Bool) (p : ValueParser) (vs : List Text) → AreFew (values_kinds ignore p vs)
values_few ignore p [] = none_few
values_few ignore p (v ∷ vs) = or_few _ _ (value_few ignore p v) (values_few ignore p vs)

of_values : (a : Rule) (vs : List Text) → AreFew (values_fault a vs)
of_values a vs = values_few a.ignore_case (parser_of_value a.parser) vs

of_set : (again : Bool) (a : Rule) (vs : List Text) (rows : List Row) → AreFew (set_fault again a vs rows)
of_set again a vs rows = or_few _ _ (if_few _ _ _ (one_few _) none_few) (of_values a vs)

of_count : (a : Rule) (vs : List Text) (rows : List Row) → AreFew (count_fault a vs rows)
of_count a [] rows = value_few a.ignore_case (parser_of_value a.parser) _
of_count a (v ∷ vs) rows = of_values a (v ∷ vs)

of_action : (act : ArgAction) (again : Bool) (a : Rule) (vs : List Text) (rows : List Row) → AreFew (action_fault act again a vs rows)
of_action actions.Set again a vs rows = of_set again a vs rows
of_action actions.SetTrue again a vs rows = of_set again a vs rows
of_action actions.SetFalse again a vs rows = of_set again a vs rows
of_action actions.Append again a vs rows = of_values a vs
of_action actions.Count again a vs rows = of_count a vs rows
of_action actions.Help again a vs rows = one_few _
of_action actions.HelpShort again a vs rows = one_few _
of_action actions.HelpLong again a vs rows = one_few _
of_action actions.Version again a vs rows = one_few _

of_use : (again : Bool) (a : Rule) (vs : List Text) (rows : List Row) → AreFew (use_fault again a vs rows)
of_use again a vs rows =
    or_few _ _ (range_few (unwrap_or_range a.range).start_inclusive (most_values a) (length vs))
    (of_action (action_of a) again a (values_or_missing a vs) rows)

of_settle : (c : List Rule) (again : Bool) (h : Held) → AreFew (settle_fault c again h)
of_settle c again h =
    map_few (λ p. option_map_or (λ a. use_fault again a p.1 h.rows) (arg_by_id c p.0) []) h.pending []
    (λ p. map_few (λ a. use_fault again a p.1 h.rows) (arg_by_id c p.0) [] (λ a. of_use again a p.1 h.rows) none_few) none_few

of_react : (c : List Rule) (again : Bool) (a : Rule) (vs : List Text) (h : Held) → AreFew (react_fault c again a vs h)
of_react c again a vs h = or_few _ _ (of_settle c again h) (of_use again a vs (settled c h).rows)

of_option : (c : List Rule) (again : Bool) (a : Rule) (v : Option Text) (h : Held) → AreFew (option_fault c again a v h)
of_option c again a (Some v) h = of_react c again a (v ∷ []) h
of_option c again a None h = of_settle c again h

of_long : (c : List Rule) (again : Bool) (a : Option Rule) (v : Option Text) (h : Held) → AreFew (long_fault c again a v h)
of_long c again None v h = one_few _
of_long c again (Some a) v h = if_few (takes_values a) _ _ (of_option c again a v h) (if_few (is_some v) _ _ (one_few kind.TooManyValues) (of_react c again a [] h))

of_short : (c : List Rule) (again : Bool) (a : Option Rule) (rest : Text) (h : Held) (go : Held → Kinds) → ((h : Held) → AreFew (go h))
    → AreFew (short_fault c again a rest h go)
of_short c again None rest h go few = one_few _
of_short c again (Some a) rest h go few =
    if_few (takes_values a) _ _ (of_option c again a (attached_value rest) h) (or_few _ _ (of_react c again a [] h) (few (reacted c a [] h)))

of_bundle_step : (c : List Rule) (again : Bool) (x : Option ℕ) (flags : Text) (skip : ℕ) (h : Held) (go : Text → ℕ → Held → Kinds)
    → ((t : Text) (n : ℕ) (h : Held) → AreFew (go t n h)) → AreFew (bundle_step_fault c again x flags skip h go)
of_bundle_step c again None flags skip h go few = none_few
of_bundle_step c again (Some x) flags zero h go few =
    let rest = drop (length (encode_utf8 x)) flags in
    of_short c again (arg_by_short c x) rest h (go rest 0) (few rest 0)
of_bundle_step c again (Some x) flags (suc skip) h go few = few (drop (length (encode_utf8 x)) flags) skip h

of_flags : (c : List Rule) (again : Bool) (k : ℕ) (flags : Text) (skip : ℕ) (h : Held) → AreFew (flags_fault c again k flags skip h)
unfolding flags_fault
of_flags c again zero flags skip h = none_few
of_flags c again (suc k) flags skip h = of_bundle_step c again (slice_get (chars flags) 0) flags skip h (flags_fault c again k) (of_flags c again k)

of_flag_word : (c : List Rule) (again : Bool) (p : Option (Text × Option Text)) (argument : Text) (h : Held) → AreFew (flag_word_fault c again p argument h)
of_flag_word c again (Some p) argument h = of_long c again (arg_by_long c p.0) p.1 h
of_flag_word c again None argument h =
    map_few (λ flags. bundle_fault c again flags h) (short_of argument) []
    (λ flags. of_flags c again (length flags) flags h.skip (record h { skip = 0 })) none_few

of_other : (s : Shape) (argument : Text) (h : Held) → AreFew (other_fault s None argument h)
of_other s argument h =
    if_few (bytes_eq argument (45 ∷ 45 ∷ [])) _ _ none_few (of_flag_word s.rules s.args_override_self (long_of argument) argument h)

of_word : (s : Shape) (is_trailing : Bool) (waiting : Waiting) (argument : Text) (h : Held) → AreFew (word_fault s [] is_trailing waiting argument h)
of_word s true waiting argument h = none_few
of_word s false idle argument h = of_other s argument h
of_word s false (option id) argument h = of_other s argument h
of_word s false positional argument h = of_other s argument h

of_positional : (c : List Rule) (again : Bool) (a : Rule) (h : Held) → AreFew (positional_fault c again a h)
of_positional c again a h = if_few (is_pending a h.pending && takes_several a) _ _ none_few (of_settle c again h)

-- a stray word is one fault, if there are no subcommands
of_stray : (leaf : Bool) (a b : Kinds) → leaf ≡ true → AreFew a → AreFew (if leaf then a else b)
of_stray true a b e f = f
of_stray false a b e f = absurd (let bad : false ≡ true = e in cc)

of_step : (s : Shape) → s.is_leaf ≡ true → (position : ℕ) (h : Held) (step : Step) → AreFew (step_fault s position h step)
of_step s leaf position h value =
    map_few (λ a. positional_fault s.rules s.args_override_self a h) (arg_by_index s.rules position) (stray_fault s)
    (λ a. of_positional s.rules s.args_override_self a h)
    (of_stray s.is_leaf (kind.UnknownArgument ∷ []) (kind.UnknownArgument ∷ kind.InvalidSubcommand ∷ []) leaf (one_few kind.UnknownArgument))
of_step s leaf position h (next waiting) = none_few
of_step s leaf position h (trailing p) = none_few
of_step s leaf position h (subcommand name) = none_few

of_turn : (s : Shape) → s.is_leaf ≡ true → (w : Walk) (argument : Text) → AreFew (turn_fault s [] w argument)
of_turn s leaf w argument =
    let met = word_met s.rules [] w.is_trailing w.waiting w.position argument w.held in
    if_few (is_some w.stopped) _ _ none_few (or_few _ _ (of_word s w.is_trailing w.waiting argument w.held) (of_step s leaf w.position met.0 met.1))

of_walk : (s : Shape) → s.is_leaf ≡ true → (w : Walk) (arguments : List Text) → AreFew (walk_fault s [] w arguments)
unfolding walk_fault
of_walk s leaf w [] = none_few
of_walk s leaf w (argument ∷ rest) = or_few _ _ (of_turn s leaf w argument) (of_walk s leaf (walked s.rules [] w argument) rest)

of_request : (act : ArgAction) → AreFew (request_kinds act)
of_request actions.Set = none_few
of_request actions.SetTrue = none_few
of_request actions.SetFalse = none_few
of_request actions.Append = none_few
of_request actions.Count = none_few
of_request actions.Help = one_few _
of_request actions.HelpShort = one_few _
of_request actions.HelpLong = one_few _
of_request actions.Version = one_few _

of_default : (rows : List Row) (a : Rule) → AreFew (default_fault rows a)
of_default rows a =
    if_few (has_row a.id rows || is_empty a.defaults) _ _ none_few (or_few _ _ (of_request (action_of a)) (of_values a a.defaults))

of_defaults : (rows : List Row) (rules : List Rule) → AreFew (defaults_fault rows rules)
unfolding defaults_fault
of_defaults rows [] = none_few
of_defaults rows (a ∷ rest) = or_few _ _ (of_default rows a) (of_defaults (with_default rows a) rest)

by_checks : (help sub arg : Bool) → AreFew (check_kinds help sub arg)
by_checks true sub arg = one_few _
by_checks false true arg = one_few _
by_checks false false true = one_few _
by_checks false false false = none_few

of_check : (s : Shape) (rows : List Row) (b : Bool) → AreFew (check_fault s rows b)
of_check s rows b =
    by_checks (not b && (s.arg_required_else_help && not (list_any (λ r. explicit_source r.source) rows)))
    (not b && s.subcommand_required)
    (not (s.subcommand_negates_reqs && b) && list_any (λ a. a.required && not (is_given a.id rows)) s.rules)

of_level : (s : Shape) → s.is_leaf ≡ true → (h : Held) (arguments : List Text) (b : Bool) (below : Kinds) → AreFew below → AreFew (level_fault s [] h arguments b below)
of_level s leaf h arguments b below few =
    let end = (walk s.rules [] h arguments).held in
    or_few _ _ (of_walk s leaf (walk_from h) arguments)
    (or_few _ _ few (or_few _ _ (of_settle s.rules s.args_override_self end)
    (or_few _ _ (of_defaults (settled s.rules end).rows s.rules) (of_check s (finished s.rules end) b))))

nothing_entered : (s : Shape) (stop : Option (Text × List Text)) → AreFew (entered_fault (record { top = s; subs = [] }) stop)
nothing_entered s None = none_few
nothing_entered s (Some p) = none_few

pub of_built : (s : Shape) → s.is_leaf ≡ true → (h : Held) (arguments : List Text) → AreFew (built_fault (record { top = s; subs = [] }) h arguments)
of_built s leaf h arguments =
    let a : App = record { top = s; subs = [] } in
    let stop = (walk s.rules [] h arguments).stopped in
    of_level s leaf h arguments (is_some (entered a stop)) (entered_fault a stop) (nothing_entered s stop)

-- the only fault is the one that is among them
pub only_one : (k : ErrorKind) (ks : Kinds) → AreFew ks → IsAmong k ks → ks ≡ k ∷ []
only_one k [] few among = absurd among
only_one k (x ∷ []) few (inl e) = ap (λ (y : ErrorKind). y ∷ []) (sym e)
only_one k (x ∷ []) few (inr never) = absurd never
only_one k (x ∷ y ∷ ks) few among = absurd few.short
