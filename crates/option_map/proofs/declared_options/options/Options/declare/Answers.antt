use Rattle.std.proofs.lemmas.Grind.{common_steps, elements}
use Rattle.std.proofs.Common.{◌≡◌, ap, sym, ◌∙◌, ◌++◌, List, ℕ, length, arith, ◌+◌, ◌-◌, ◌<◌, ◌≤◌, length-append, Some}
use Rattle.line_io.specs.Out.{Text}
use Rattle.uci_lines.specs.Messages.{option_kind_of}
use Rattle.option_map.specs.DeclaredOptions.Settings.{kept_as, OptionSetting, shown_length, text_size, if_within}
use Rattle.option_map.specs.DeclaredOptions.Stored.{kind_kept, stored_settings_in}
use Rattle.option_map.proofs.FeatureLists.Measured.{fitting_is, fitting_fits, kept_small, more_text}
use Rattle.option_map.proofs.declared_options.options.Options.declare.Goals as goal

-- Of an option, `kept` bytes are kept, and its line has `shown`, which is the `length` found.
room_for : (text kept shown length size most room : ℕ) → kept ≤ shown → length ≡ shown → length ≤ most - size → text ≤ size → size ≤ most → room ≡ most → text + kept ≤ room
room_for text kept shown length size most room small is fits within held all = omega arith

text_within : (new text kept shown length size : ℕ) → new ≡ text + kept → kept ≤ shown → length ≡ shown → text ≤ size → new ≤ size + length
text_within new text kept shown length size more small is within = omega arith

lines_fit : (length size most : ℕ) → length ≤ most - size → size ≤ most → size + length ≤ most
lines_fit length size most fits held = omega arith

places_left : (most count spare count' spare' : ℕ) → count' ≡ count + 1 → spare ≤ spare' + 1 → most ≤ count + spare → most ≤ count' + spare'
places_left most count spare count' spare' one less held = omega arith

still_few : (found count count' most : ℕ) → found ≡ count → found < most → count' ≡ count + 1 → count' ≤ most
still_few found count count' most is few one = omega arith

pub keep-requires-clause-room : goal.keep-requires-clause-room
keep-requires-clause-room c =
    let o = kept_as c.is_hidden-hidden.result c.text_feature-feature.result c.args.msg.now.name.now (option_kind_of c.args.msg.now.kind) in
    let reported : Some c.in-Some.length ≡ if_within (65536 - c.self.inside.size) (shown_length o) = sym c.in-Some.is ∙ c.shown_length.ensures in
    room_for (length c.self.inside.texts.text) (length (kind_kept o.kind)) (shown_length o) c.in-Some.length c.self.inside.size 65536 c.self.inside.texts.room
    (kept_small c.is_hidden-hidden.result c.text_feature-feature.result c.args.msg.now.name.now (option_kind_of c.args.msg.now.kind))
    (fitting_is (65536 - c.self.inside.size) (shown_length o) c.in-Some.length reported)
    (fitting_fits (65536 - c.self.inside.size) (shown_length o) c.in-Some.length reported)
    c.self.invariant.within c.self.invariant.fits c.self.invariant.room

pub invariant_of-self : goal.invariant_of-self
invariant_of-self c =
    let o = kept_as c.is_hidden-hidden.result c.text_feature-feature.result c.args.msg.now.name.now (option_kind_of c.args.msg.now.kind) in
    let reported : Some c.in-Some.length ≡ if_within (65536 - c.self.inside.size) (shown_length o) = sym c.in-Some.is ∙ c.shown_length.ensures in
    let is = fitting_is (65536 - c.self.inside.size) (shown_length o) c.in-Some.length reported in
    let fits = fitting_fits (65536 - c.self.inside.size) (shown_length o) c.in-Some.length reported in
    let old = stored_settings_in c.self.inside.texts.text c.self.inside.table.entries in
    let text : c.keep.new.texts.text ≡ c.self.inside.texts.text ++ kind_kept o.kind = ap (λ (t : Text). t.text) c.keep.ensures.texts in
    record {
      stored = c.keep.ensures.stored;
      places = places_left 256 _ _ _ _ c.keep.ensures.count c.keep.ensures.spare c.self.invariant.places;
      few = still_few _ _ _ 256 c.len.ensures.len c.if-len-ge-MOST_OPTIONS.false c.keep.ensures.count;
      size = ap (λ (n : ℕ). n + c.in-Some.length) c.self.invariant.size ∙ ap (λ (n : ℕ). text_size old + n) is ∙ sym (more_text old o) ∙ ap (λ (os : List OptionSetting). text_size os) (sym c.keep.ensures.kept);
      fits = lines_fit c.in-Some.length c.self.inside.size 65536 fits c.self.invariant.fits;
      within = text_within (length c.keep.new.texts.text) (length c.self.inside.texts.text) (length (kind_kept o.kind)) (shown_length o) c.in-Some.length c.self.inside.size
          (ap length text ∙ length-append c.self.inside.texts.text (kind_kept o.kind))
          (kept_small c.is_hidden-hidden.result c.text_feature-feature.result c.args.msg.now.name.now (option_kind_of c.args.msg.now.kind)) is c.self.invariant.within;
      room = ap (λ (t : Text). t.room) c.keep.ensures.texts ∙ c.self.invariant.room;
    }

pub returns-clause-answer : goal.returns-clause-answer
returns-clause-answer c = grind (arith, common_steps)

pub returns-clause-options : goal.returns-clause-options
returns-clause-options c = grind (arith, common_steps)

pub shown_length-requires-clause-good : goal.shown_length-requires-clause-good
shown_length-requires-clause-good c = grind (arith, elements)

pub keep-requires-clause-good : goal.keep-requires-clause-good
keep-requires-clause-good c = grind (arith, elements)
