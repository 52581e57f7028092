-- The numbers of the refusals (docs/FORMAT.md, "Refusal numbers", and the tables of the calls that give the others).
use Rattle.std.specs.Prelude.{ℕ}
use Rattle.bpg_refusal.specs.declared.Reason.{Reason}
use Rattle.bpg_refusal.specs.declared.Reason.TheVariants.{FileTooLong, Truncated, Magic, BadPixelFormat, BadBitDepth, BadColorSpace, NumberNotShortest, NumberTooLarge, EmptyPicture, BadDataLength, TooManyEntries, ZeroPeriod, SecondLoop, NoLoop, BadHeader, HevcRule, ForbiddenBit, RangeOutside, Inconsistent, BufferTooSmall, OtherHead, BadNalUnit, BadNalLayer, BadDuration, BadFrameCount, BadDataStart, DeepThumbnail, BadThumbnail, LargeThumbnail, BadBatch, UnequalLengths, BadSampleDepth, SampleTooLarge, PayloadTooLong, TagTwice, BadSegments, Unplayable}

abbrev pub reason_number : Reason → ℕ
reason_number FileTooLong = 1
reason_number Truncated = 2
reason_number Magic = 3
reason_number BadPixelFormat = 4
reason_number BadBitDepth = 5
reason_number BadColorSpace = 6
reason_number NumberNotShortest = 7
reason_number NumberTooLarge = 8
reason_number EmptyPicture = 9
reason_number BadDataLength = 10
reason_number TooManyEntries = 11
reason_number ZeroPeriod = 12
reason_number SecondLoop = 13
reason_number NoLoop = 14
reason_number BadHeader = 15
reason_number HevcRule = 16
reason_number ForbiddenBit = 17
reason_number RangeOutside = 18
reason_number Inconsistent = 19
reason_number BufferTooSmall = 20
reason_number OtherHead = 21
reason_number BadNalUnit = 22
reason_number BadNalLayer = 23
reason_number BadDuration = 24
reason_number BadFrameCount = 25
reason_number BadDataStart = 26
reason_number DeepThumbnail = 27
reason_number BadThumbnail = 28
reason_number LargeThumbnail = 29
reason_number BadBatch = 30
reason_number UnequalLengths = 31
reason_number BadSampleDepth = 32
reason_number SampleTooLarge = 33
reason_number PayloadTooLong = 34
reason_number TagTwice = 35
reason_number BadSegments = 36
reason_number Unplayable = 37
