-- A table of entries that grows.
use Rattle.std.proofs.Common.{◌≡◌, ◌++◌, inl, inr, ℕ, List, [], ◌∷◌, length, Some, None, sym, ◌∙◌, ap, subst, append_assoc, slice_get}
use Rattle.std.proofs.lemmas.Option.{same_Some, none-some}
use Rattle.std.proofs.lemmas.List.{append-nil}
use Rattle.std.proofs.lemmas.List.Elements.{All-append, All-cons, All-nil}
use Rattle.isle_rules.proofs.Zipped.{zipped_append}
use Rattle.isle_containers.proofs.Lists.{slice_get-kept, slice_get-last, slice_get-pushed}
use Rattle.isle_syntax.specs.declared.lexer.Token.{Token}
use Rattle.isle_program.specs.declared.program.Program.{Program}
use Rattle.isle_values.specs.Worlds.Entries.{EntryTree, IsSameCall, IsSpellableEntry, entry_tokens}
use Rattle.isle_values.specs.Worlds.Tables.{HasEntries, IsAdded, entry_at, entry_of}
use Rattle.isle_values.specs.Worlds.Texts.{IsRead, AreOfDistinctCalls, SpellEntries, entries_tokens}

-- what is at the same call is the same
same_entry : (table : List EntryTree) (d e : EntryTree) → IsSameCall d e → entry_of table d ≡ entry_of table e
same_entry table d e same i = entry_at table (same.side i) (same.term i) (same.call i)

-- an entry that is there isn't that of a call that had none
not_same : (old : List EntryTree) (entries : List EntryTree) (d e : EntryTree) (i : ℕ) → HasEntries old entries → entry_of old e ≡ None
    → slice_get entries i ≡ Some d → IsSameCall d e → ⊥
not_same old entries d e i has absent at same = none-some d.answer (sym absent ∙ sym (same_entry old d e same) ∙ has.all i d at)

-- one more entry
pub has_more : (old new : List EntryTree) (entries : List EntryTree) (e : EntryTree) → HasEntries old entries
    → IsAdded old e new → HasEntries new (entries ++ e ∷ [])
has_more old new entries e has added = record {
  all = λ i d at. elim (slice_get-pushed entries e i d at) [
    | inl before ↦ elim (added.kept d) [
      | inl same ↦ absurd (not_same old entries d e i has added.absent before same)
      | inr kept ↦ kept ∙ has.all i d before
    ]
    | inr last ↦ subst (λ (x : EntryTree). entry_of new x ≡ Some x.answer) last.1 added.there
  ];
  only = λ d found.
      elim (added.kept d) [
        | inl same ↦
            let it : Some d.answer ≡ Some e.answer = sym found ∙ same_entry new d e same ∙ added.there in
            let is : e ≡ d = λ i. record {
              side = sym same.side i;
              term = sym same.term i;
              call = sym same.call i;
              answer =
                  sym (same_Some _ _ it) i;
            } in
            (length entries, slice_get-last entries e ∙ ap Some is)
        | inr kept ↦ let (i, at) = has.only d (sym kept ∙ found) in (i, slice_get-kept entries (e ∷ []) i d at)
      ];
}

-- each call still has one
distinct_more : (old : List EntryTree) (entries : List EntryTree) (e : EntryTree) → HasEntries old entries
    → entry_of old e ≡ None → AreOfDistinctCalls entries
    → AreOfDistinctCalls (entries ++ e ∷ [])
distinct_more old entries e has absent once i j d f p q same = elim (slice_get-pushed entries e i d p) [
  | inl before ↦ elim (slice_get-pushed entries e j f q) [
    | inl also ↦ once i j d f before also same
    | inr last ↦ absurd (not_same old entries d e i has absent before (subst (IsSameCall d) (sym last.1) same))
  ]
  | inr last ↦ elim (slice_get-pushed entries e j f q) [
    | inl also ↦ absurd (not_same old entries f e j has absent also
        (let turned : IsSameCall f d = record { side = sym same.side; term = sym same.term; call = sym same.call } in
        subst (IsSameCall f) (sym last.1) turned))
    | inr also ↦ last.0 ∙ sym also.0
  ]
]

-- entries' tokens, one behind the other
tokens_more : (spelt : List EntryTree) (s : EntryTree) → entries_tokens (spelt ++ s ∷ []) ≡ entries_tokens spelt ++ entry_tokens s
tokens_more [] s = append-nil (entry_tokens s)
tokens_more (x ∷ spelt) s = ap (λ l. entry_tokens x ++ l) (tokens_more spelt s) ∙ sym
    (append_assoc (entry_tokens x) (entries_tokens spelt) (entry_tokens s))

-- tokens spell one more entry
pub spell_more : (program : Program) (old : List EntryTree) (tokens front : List Token) (entries : List EntryTree) (spelt e : EntryTree)
    → SpellEntries program tokens entries
    → HasEntries old entries → entry_of old e ≡ None → IsSpellableEntry spelt → front ≡ entry_tokens spelt → IsRead program spelt e
    → SpellEntries program (tokens ++ front) (entries ++ e ∷ [])
spell_more program old tokens front entries spelt e good has absent spellable is read = record {
  spelt = good.spelt ++ spelt ∷ [];
  spellable = All-append IsSpellableEntry good.spelt (spelt ∷ []) good.spellable
      (All-cons IsSpellableEntry spelt [] spellable (All-nil IsSpellableEntry));
  tokens_are = ap (λ l. l ++ front) good.tokens_are ∙ ap (λ l. entries_tokens good.spelt ++ l) is ∙ sym (tokens_more good.spelt spelt);
  read = zipped_append (IsRead program) good.spelt entries (spelt ∷ []) (e ∷ []) good.read (read, tt);
  once = distinct_more old entries e has absent good.once;
}
