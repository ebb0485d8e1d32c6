-- Each rule's name, and the HTTP status of a reply that names it. The names, and which rule has which status, are this
-- project's own; RFC 9110, 15 says what the statuses mean.
use Rattle.std.specs.Prelude.{ℕ, List, codes}
use Rattle.chv_defs_base.specs.declared.rule.Rule.{Rule}
use Rattle.chv_defs_base.specs.declared.rule.Rule.TheVariants.{BadHead, BadLength, BodyTooLong, Coded, NoRoute, NotJson, Missing, NotObject, NotList, NotText, NotWhole, NotBool, BadName, NotCreated, AlreadyCreated, Held, NotBooted, AlreadyBooted, NotRunning, NotPaused, BootZero, BootAboveMax, VcpusAboveLimit, ZonesNeedSizeZero, ZonesOwnHotplug, SizeZero, TooManyZones, ZoneIdBad, ZoneIdTwice, SizeUnaligned, ZoneTooLarge, HotpluggedAbove, WayForZones, WayAcpi, DiskUnknown, DiskTwice, DeviceIdBad, DeviceIdTwice, QueueShape, TooManyDevices, VcpuCount, RemovalPending, ByZone, ZoneUnknown, RamRange, DeviceUnknown, DeviceFixed, DeviceLeaving, SlotsFull, VaultFault, ImageMissing, BadImage, NotBuilt}

-- the name that a reply and a trace give
abbrev pub rule_name : Rule → List ℕ
rule_name BadHead = codes "BadHead"
rule_name BadLength = codes "BadLength"
rule_name BodyTooLong = codes "BodyTooLong"
rule_name Coded = codes "Coded"
rule_name NoRoute = codes "NoRoute"
rule_name NotJson = codes "NotJson"
rule_name Missing = codes "Missing"
rule_name NotObject = codes "NotObject"
rule_name NotList = codes "NotList"
rule_name NotText = codes "NotText"
rule_name NotWhole = codes "NotWhole"
rule_name NotBool = codes "NotBool"
rule_name BadName = codes "BadName"
rule_name NotCreated = codes "NotCreated"
rule_name AlreadyCreated = codes "AlreadyCreated"
rule_name Held = codes "Held"
rule_name NotBooted = codes "NotBooted"
rule_name AlreadyBooted = codes "AlreadyBooted"
rule_name NotRunning = codes "NotRunning"
rule_name NotPaused = codes "NotPaused"
rule_name BootZero = codes "BootZero"
rule_name BootAboveMax = codes "BootAboveMax"
rule_name VcpusAboveLimit = codes "VcpusAboveLimit"
rule_name ZonesNeedSizeZero = codes "ZonesNeedSizeZero"
rule_name ZonesOwnHotplug = codes "ZonesOwnHotplug"
rule_name SizeZero = codes "SizeZero"
rule_name TooManyZones = codes "TooManyZones"
rule_name ZoneIdBad = codes "ZoneIdBad"
rule_name ZoneIdTwice = codes "ZoneIdTwice"
rule_name SizeUnaligned = codes "SizeUnaligned"
rule_name ZoneTooLarge = codes "ZoneTooLarge"
rule_name HotpluggedAbove = codes "HotpluggedAbove"
rule_name WayForZones = codes "WayForZones"
rule_name WayAcpi = codes "WayAcpi"
rule_name DiskUnknown = codes "DiskUnknown"
rule_name DiskTwice = codes "DiskTwice"
rule_name DeviceIdBad = codes "DeviceIdBad"
rule_name DeviceIdTwice = codes "DeviceIdTwice"
rule_name QueueShape = codes "QueueShape"
rule_name TooManyDevices = codes "TooManyDevices"
rule_name VcpuCount = codes "VcpuCount"
rule_name RemovalPending = codes "RemovalPending"
rule_name ByZone = codes "ByZone"
rule_name ZoneUnknown = codes "ZoneUnknown"
rule_name RamRange = codes "RamRange"
rule_name DeviceUnknown = codes "DeviceUnknown"
rule_name DeviceFixed = codes "DeviceFixed"
rule_name DeviceLeaving = codes "DeviceLeaving"
rule_name SlotsFull = codes "SlotsFull"
rule_name VaultFault = codes "VaultFault"
rule_name ImageMissing = codes "ImageMissing"
rule_name (BadImage place) = codes "BadImage"
rule_name NotBuilt = codes "NotBuilt"

-- the HTTP status of a reply that names the rule
abbrev pub rule_status : Rule → ℕ
rule_status BadHead = 400
rule_status BadLength = 400
rule_status BodyTooLong = 400
rule_status Coded = 400
rule_status NoRoute = 404
rule_status NotJson = 400
rule_status Missing = 400
rule_status NotObject = 400
rule_status NotList = 400
rule_status NotText = 400
rule_status NotWhole = 400
rule_status NotBool = 400
rule_status BadName = 400
rule_status NotCreated = 404
rule_status AlreadyCreated = 500
rule_status Held = 500
rule_status NotBooted = 500
rule_status AlreadyBooted = 500
rule_status NotRunning = 500
rule_status NotPaused = 500
rule_status BootZero = 400
rule_status BootAboveMax = 400
rule_status VcpusAboveLimit = 400
rule_status ZonesNeedSizeZero = 400
rule_status ZonesOwnHotplug = 400
rule_status SizeZero = 400
rule_status TooManyZones = 400
rule_status ZoneIdBad = 400
rule_status ZoneIdTwice = 400
rule_status SizeUnaligned = 400
rule_status ZoneTooLarge = 400
rule_status HotpluggedAbove = 400
rule_status WayForZones = 400
rule_status WayAcpi = 400
rule_status DiskUnknown = 400
rule_status DiskTwice = 400
rule_status DeviceIdBad = 400
rule_status DeviceIdTwice = 400
rule_status QueueShape = 400
rule_status TooManyDevices = 400
rule_status VcpuCount = 400
rule_status RemovalPending = 500
rule_status ByZone = 400
rule_status ZoneUnknown = 404
rule_status RamRange = 400
rule_status DeviceUnknown = 404
rule_status DeviceFixed = 400
rule_status DeviceLeaving = 500
rule_status SlotsFull = 500
rule_status VaultFault = 500
rule_status ImageMissing = 404
rule_status (BadImage place) = 400
rule_status NotBuilt = 500
