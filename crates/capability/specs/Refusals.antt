-- The number for no of each refusal.
use Rattle.std.specs.Prelude.{ℕ, Option, Some, None, Result, Ok, Err}
use Rattle.capability.specs.declared.Refusal.{Refusal}
use Rattle.capability.specs.declared.Refusal.TheVariants.{
  TooBig,
  BadText,
  ExtraOverflows,
  InCycle,
  NotInCycle,
  NoOffer,
  Unsettled,
  NotInvited,
  TooManyNames,
  NamesFull,
  NumbersUsedUp,
  NoSuchKind,
  ShortMemory,
  BadForm,
}

abbrev pub refusal_number : Refusal → ℕ
refusal_number TooBig = 1
refusal_number BadText = 2
refusal_number ExtraOverflows = 3
refusal_number InCycle = 4
refusal_number NotInCycle = 5
refusal_number NoOffer = 6
refusal_number Unsettled = 7
refusal_number NotInvited = 8
refusal_number TooManyNames = 9
refusal_number NamesFull = 10
refusal_number NumbersUsedUp = 11
refusal_number NoSuchKind = 12
refusal_number ShortMemory = 13
refusal_number BadForm = 14

-- The number of an answer for no; none of one for yes.
abbrev pub refusal_of : {A : Type 0} → Result A Refusal → Option ℕ
refusal_of (Ok a) = None
refusal_of (Err r) = Some (refusal_number r)
