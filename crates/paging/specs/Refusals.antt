-- The number of each refusal. Assumes nothing.
use Rattle.std.specs.Prelude.{ℕ}
use Rattle.paging.specs.declared.refusal.Refusal.{Refusal}
use Rattle.paging.specs.declared.refusal.Refusal.TheVariants.{TooShort, BadHeader, TooManyReferences, WrongLength, SpareBitsSet, NoPlaceForName, NameTooLarge, StringFull, StringTooShort, UnknownLetter, BadFrameCount, PolicyWithoutEdge, NoFrameCountWithin, PagerHoldsPages, BadWindow, CodeWithoutName, OutputTooShort}

abbrev pub number : Refusal → ℕ
number TooShort = 1
number BadHeader = 2
number TooManyReferences = 3
number WrongLength = 4
number SpareBitsSet = 5
number NoPlaceForName = 6
number NameTooLarge = 7
number StringFull = 8
number StringTooShort = 9
number UnknownLetter = 10
number BadFrameCount = 11
number PolicyWithoutEdge = 12
number NoFrameCountWithin = 13
number PagerHoldsPages = 14
number BadWindow = 15
number CodeWithoutName = 16
number OutputTooShort = 17
