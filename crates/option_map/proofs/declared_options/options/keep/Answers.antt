use Rattle.std.proofs.Common.{◌≡◌, ap, sym, ◌∙◌, ◌++◌, ◌∷◌, [], List, ℕ, length, arith, ◌≤◌, length-append, subst}
use Rattle.std.specs.Str.{bytes_eq}
use Rattle.line_io.specs.Out.{Text}
use Rattle.arrayvec.specs.ArrayVec.{ArrayVec}
use Rattle.indexmap.specs.IndexMap.{insert_entry}
use Rattle.indexmap.proofs.CallerLemmas.{insert_entry-new}
use Rattle.uci_lines.specs.Messages.{option_kind_of}
use Rattle.option_map.specs.declared.declared_options.stored.Stored.{Stored}
use Rattle.option_map.specs.DeclaredOptions.Names.{folded}
use Rattle.option_map.specs.DeclaredOptions.Settings.{kept_as}
use Rattle.option_map.specs.DeclaredOptions.Stored.{kind_kept, AreStored}
use Rattle.option_map.proofs.WaitingOrders.Kept.{one_more, not_looked, stored_more, when_ok}
use Rattle.option_map.proofs.declared_options.options.keep.Goals as goal

entries_are : (c : goal.After-insert) → c.insert.new.self.entries ≡ c.args.table.now.entries ++ (c.folded.result, record { name = c.spelled-name.result; kind = c.store-kind.result; hidden = c.args.hidden; text_feature = c.args.feature }) ∷ []
entries_are c =
    let key = c.folded.result in
    when_ok c.insert.result (c.insert.new.self.entries ≡ insert_entry (λ a b. bytes_eq a.items b.items) c.args.table.now.entries key (record { name = c.spelled-name.result; kind = c.store-kind.result; hidden = c.args.hidden; text_feature = c.args.feature }))
    c.insert.ensures.entries (c.insert.ensures.succeeds (omega (arith, c.requires.place)))
    ∙ insert_entry-new (λ a b. bytes_eq a.items b.items) c.args.table.now key (record { name = c.spelled-name.result; kind = c.store-kind.result; hidden = c.args.hidden; text_feature = c.args.feature })
    (not_looked (length c.args.texts.now.text) c.args.texts.now.text c.args.msg.now.name.now key.items c.args.table.now.entries c.requires.stored c.folded.ensures c.requires.new)

texts_are : (c : goal.After-insert) → c.store-kind.new.out.text ≡ c.args.texts.now.text ++ kind_kept (kept_as c.args.hidden c.args.feature c.args.msg.now.name.now (option_kind_of c.args.msg.now.kind)).kind
texts_are c = ap (λ (t : Text). t.text) c.store-kind.ensures.texts

pub returns-clause-kept : goal.returns-clause-kept
returns-clause-kept c =
    let o = kept_as c.args.hidden c.args.feature c.args.msg.now.name.now (option_kind_of c.args.msg.now.kind) in
    one_more c.args.texts.now.text (kind_kept o.kind) c.args.msg.now.name.now c.store-kind.new.out.text o.kind c.args.table.now.entries c.insert.new.self.entries c.folded.result
    (record { name = c.spelled-name.result; kind = c.store-kind.result; hidden = c.args.hidden; text_feature = c.args.feature }) (texts_are c) (entries_are c) c.requires.stored c.spelled-name.ensures c.store-kind.ensures.kind

pub returns-clause-stored : goal.returns-clause-stored
returns-clause-stored c =
    let n = length c.store-kind.new.out.text in
    let longer : length c.args.texts.now.text ≤ n =
    omega (arith, ap length (texts_are c), length-append c.args.texts.now.text (kind_kept (kept_as c.args.hidden c.args.feature c.args.msg.now.name.now (option_kind_of c.args.msg.now.kind)).kind)) in
    let key = c.folded.ensures ∙ ap folded (sym c.spelled-name.ensures) in
    let short : length c.spelled-name.result.items ≤ 128 = omega (arith, ap length c.spelled-name.ensures, c.requires.short) in
    subst (λ (es : List (ArrayVec ℕ × Stored)). AreStored n es) (sym (entries_are c))
    (stored_more (length c.args.texts.now.text) n c.args.table.now.entries (c.folded.result, record { name = c.spelled-name.result; kind = c.store-kind.result; hidden = c.args.hidden; text_feature = c.args.feature }) longer c.requires.stored
    (record { key = key; short = short; within = c.store-kind.ensures.within }))

pub returns-clause-count : goal.returns-clause-count
returns-clause-count c = omega (arith, ap length (entries_are c), length-append c.args.table.now.entries ((c.folded.result, record { name = c.spelled-name.result; kind = c.store-kind.result; hidden = c.args.hidden; text_feature = c.args.feature }) ∷ []))
