-- What a book does as a machine that sessions share.
use Rattle.std.proofs.Common.{◌≡◌, ℕ, true, List, [], ◌∷◌, ◌++◌, map, MatchBool, refl, sym, ap, ◌∙◌, subst, inl, inr}
use Rattle.std.proofs.lemmas.List.{map-append}
use Rattle.catalog_lock.specs.History.{event}
use Rattle.cat_items.specs.declared.limits.Limits.{Limits}
use Rattle.cat_engine.specs.Contents.{Content, State}
use Rattle.cat_engine.specs.Effects.{reply_of}
use Rattle.cat_engine.specs.Histories.{IsAfter, IsReached}
use Rattle.cat_engine.specs.Steps.{Answers, Step, StepOrNone, IsEntered}
use Rattle.cat_engine.specs.Shared.{event_of, entry_of, history_of, origin_of, is_entered, IsReplyAfter, IsUnentered}
use Rattle.cat_engine.specs.declared.journal.Entry.{Entry}
use Rattle.cat_engine.specs.declared.outcome.Outcome.{Outcome}
use Rattle.cat_engine.specs.declared.outcome.Outcome.TheVariants.{Answered, Done, Warned}
use Rattle.cat_engine.specs.declared.reply.Reply.{Reply}

-- the events of entries are those entries
pub entries_back : (entries : List Entry) → map entry_of (map event_of entries) ≡ entries
entries_back [] = refl
entries_back (e ∷ es) = ap (λ rest. e ∷ rest) (entries_back es)

-- a step from a state that a book reached is one after its history
pub reply_after : (old new : State) (number : ℕ) (text : List ℕ) (answer : Reply) → IsReached old → Step old number text answer new
    → IsReplyAfter (origin_of old) (history_of old) number text answer
reply_after old new number text answer reached step = record {
  start = reached.start;
  before = old;
  after = new;
  opening = reached.opening;
  earlier = subst (λ es. IsAfter reached.start es old) (sym (entries_back old.journal)) reached.after;
  step = step;
}

outcome_is_entered : (outcome : Outcome) → is_entered (reply_of outcome) ≡ true
outcome_is_entered Done = refl
outcome_is_entered (Warned warning) = refl
outcome_is_entered (Answered rows) = refl

answered_is_entered : (limits : Limits) (number : ℕ) (old : Content) (text : List ℕ) (answer : Reply) (new : Content) → Answers limits number old text answer new → is_entered answer ≡ true
answered_is_entered limits number old text answer new answers = elim answers [
  | inl refused ↦ ap is_entered refused.told
  | inr done ↦ ap is_entered done.told ∙ outcome_is_entered done.outcome
]

abbrev pub Acts : State → State → ℕ → List ℕ → Reply → Type 0
Acts old new number text answer = MatchBool (is_entered answer)
    ((history_of new ≡ history_of old ++ event number text ∷ []) × IsReplyAfter (origin_of old) (history_of old) number text answer)
    ((history_of new ≡ history_of old) × IsUnentered (origin_of old) (history_of old) number text answer)

history_more : (old new : State) (number : ℕ) (text : List ℕ) → new.journal ≡ old.journal ++ record { session = number; text = text } ∷ []
    → history_of new ≡ history_of old ++ event number text ∷ []
history_more old new number text is = ap (map event_of) is ∙ map-append event_of old.journal (record { session = number; text = text } ∷ [])

entered : (old new : State) (number : ℕ) (text : List ℕ) (answer : Reply) → IsReached old → (is : is_entered answer ≡ true) → IsEntered old number text answer new → Acts old new number text answer
entered old new number text answer reached is step =
    subst (λ b. MatchBool b
    ((history_of new ≡ history_of old ++ event number text ∷ []) × IsReplyAfter (origin_of old) (history_of old) number text answer)
    ((history_of new ≡ history_of old) × IsUnentered (origin_of old) (history_of old) number text answer)) (sym is)
    (history_more old new number text step.journal, reply_after old new number text answer reached (inr step))

pub acts : (old new : State) (number : ℕ) (text : List ℕ) (answer : Reply) → IsReached old → StepOrNone old number text answer new → Acts old new number text answer
acts old new number text answer reached step = elim step [
  | inr none ↦ subst (λ r. Acts old new number text r) (sym none.0) (ap history_of none.1, inl refl)
  | inl one ↦ elim one [
    | inr e ↦ entered old new number text answer reached (answered_is_entered old.limits number old.content text answer new.content e.answers) e
    | inl full ↦ subst (λ r. Step old number text r new → Acts old new number text r) (sym full.told)
        (λ s. (ap history_of full.same, inr (_, refl, reply_after old new number text _ reached s))) (inl full)
  ]
]

-- no step changes what a book was made with
pub same_origin : (old new : State) (number : ℕ) (text : List ℕ) (answer : Reply) → StepOrNone old number text answer new → origin_of new ≡ origin_of old
same_origin old new number text answer step = elim step [
  | inr none ↦ ap origin_of none.1
  | inl one ↦ elim one [
    | inr e ↦ λ i. record { users = e.users i; limits = e.limits i }
    | inl full ↦ ap origin_of full.same
  ]
]
